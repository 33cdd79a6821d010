use Rattle.std.proofs.Common.{◌≡◌, true, false, Option, Some, ap, refl, subst, sym, ◌∙◌}
use Rattle.std.proofs.lemmas.Result.{IfOk-weaker}
use Rattle.skk_calls.specs.Rows.{Row}
use Rattle.learned_store.specs.declared.form.PayloadForm.{PayloadForm}
use Rattle.learned_store.specs.Gathering.{IsTold, place_at, row_among, takes_on}
use Rattle.learned_store.specs.Payloads.{takes_note}
use Rattle.learned_store.proofs.Gathering.{IsChanged, put_told, drop_told, listed_told, set_told, note_told}
use Rattle.learned_store.proofs.gathered.tell_row.Goals as goal

pub returns-in_ok-_row-in-Put-clause-told : goal.returns-in_ok-_row-in-Put-clause-told
returns-in_ok-_row-in-Put-clause-told c is keyed =
    let before = row_among c.args.rows.now in
    let after = row_among c.insert.new.self in
    subst (λ (form : PayloadForm). (takes_on before form ≡ true) × IsTold form before after) (sym c.in-Put.is) (
      refl,
      put_told before after c.in-Put.book c.in-Put.count c.in_ok-key-in-Put.key c.in-Put.row
          (c.in_ok-key-in-Put.ensures ∙ c.key.ensures.value)
          (subst (λ (row : Row). IsChanged before after (place_at c.in-Put.book c.in_ok-key-in-Put.key) (Some row))
          c.in_ok-row-in-Put.ensures c.in_ok-_row-in-Put.ensures.updates.0),
    )

pub returns-in-Drop-clause-told : goal.returns-in-Drop-clause-told
returns-in-Drop-clause-told c is keyed =
    let before = row_among c.args.rows.now in
    let after = row_among c.remove-row.new.self in
    subst (λ (form : PayloadForm). (takes_on before form ≡ true) × IsTold form before after) (sym c.in-Drop.is)
    (refl, drop_told before after c.in-Drop.book c.in-Drop.count c.in-Drop.key c.remove-row.ensures.updates.0)

pub returns-in-SetCount-clause-told : goal.returns-in-SetCount-clause-told
returns-in-SetCount-clause-told c is keyed =
    let before = row_among c.args.rows.now in
    subst (λ (form : PayloadForm). (takes_on before form ≡ true) × IsTold form before before) (sym c.in-SetCount.is)
    (refl, set_told before c.in-SetCount.book c.in-SetCount.count)

pub returns-in-SetList-clause-told : goal.returns-in-SetList-clause-told
returns-in-SetList-clause-told c is keyed =
    let before = row_among c.args.rows.now in
    subst (λ (form : PayloadForm). (takes_on before form ≡ true) × IsTold form before before) (sym c.in-SetList.is)
    (refl, listed_told before c.in-SetList.typist c.in-SetList.books)

pub returns-in-Note-clause-told : goal.returns-in-Note-clause-told
returns-in-Note-clause-told c =
    let before = row_among c.args.rows.now in
    let after = row_among c.annotate.new.rows in
    IfOk-weaker c.annotate.result _ _ (λ done annotated yes keyed.
    let is = annotated yes in
    subst (λ (form : PayloadForm). (takes_on before form ≡ true) × IsTold form before after) (sym c.in-Note.is) (
      ap (λ (row : Option Row). takes_note row c.in-Note.cand c.in-Note.count) is.there ∙ is.takes,
      note_told before after c.in-Note.book c.in-Note.count c.in-Note.key c.in-Note.cand is keyed,
    )) c.annotate.ensures.annotated

pub returns-in-Note-clause-none : goal.returns-in-Note-clause-none
returns-in-Note-clause-none c =
    let before = row_among c.args.rows.now in
    IfOk-weaker c.annotate.result _ _ (λ done refused no.
    subst (λ (form : PayloadForm). takes_on before form ≡ false) (sym c.in-Note.is) (refused no))
    c.annotate.ensures.none
