-- Reading a line is the relation: it gives the row that the line spells, or else the first reason that fits it.
use Rattle.std.proofs.Common.{◌≡◌, ◌↔◌, ◌≤◌, ℕ, Bool, true, false, nat_lt, if◌then◌else◌, ◌⊎◌, inl, inr}
use Rattle.std.proofs.Common.{Option, None, Some, Result, Ok, Err, IfOk, IsErrOf, List, [], ◌∷◌, ◌++◌, refl, sym, ap}
use Rattle.std.proofs.Common.{◌∙◌, subst, arith}
use Rattle.std.specs.List.{list_all, AllByRecursion}
use Rattle.std.specs.Result.{result_ok}
use Rattle.std.proofs.lemmas.Bool.{both_ways, cases_Bool, ltb-true, ltb-false, le-ltb}
use Rattle.std.proofs.lemmas.Option.{none-some, same_Some, some_pair_parts}
use Rattle.skk_text.specs.Text.{byte_len}
use Rattle.skk_text.specs.Results.{AnswersUnless}
use Rattle.skk_calls.specs.declared.part.Part.{Part}
use Rattle.skk_calls.specs.Canonical.{line_limit}
use Rattle.skk_calls.specs.Rows.{Row, RowKey, is_row_key, reading_limit}
use Rattle.exact_readers.specs.Cuts.{cut, without_spaces}
use Rattle.exact_readers.specs.CutLaws.{cut-none, cut-nowhere}
use Rattle.exact_readers.specs.Exact.{AreAll}
use Rattle.exact_readers.specs.Formats.{all}
use Rattle.exact_readers.specs.ManyLaws.{all-are, all-complete, all-once}
use Rattle.dict_format.specs.EntryRows.{row_of_line}
use Rattle.dict_format.specs.declared.reason.LineFault.{LineFault}
use Rattle.dict_format.specs.declared.reason.LineFault.TheVariants.{Reason, Memory}
use Rattle.dict_format.specs.declared.reason.LineReason.{LineReason}
use Rattle.dict_format.specs.declared.reason.LineReason.TheVariants.{LongLine, NoSpace, BadReading, LongReading}
use Rattle.dict_format.specs.declared.reason.LineReason.TheVariants.{OkuriKey, NoSlash, Block, LongCandidate, Empty}
use Rattle.dict_format.specs.Items.{Item, SpellsItems, item_format}
use Rattle.exact_readers.specs.Lacking.{lacks}
use Rattle.dict_format.specs.Lines.{HasBody, HasTexts, SpellsRow}
use Rattle.dict_format.specs.Reading.{is_space, texts_at, or_reason, and_then, key_at, fit_items_at, some_row_of}
use Rattle.dict_format.specs.Reading.{row_reading, line_reading, key_reading}
use Rattle.dict_format.specs.Reasons.{is_bad_reading, lacks_letter, is_slashed, Fits, ReadingIs, reasons, IsReason}
use Rattle.dict_format.specs.RowOfItems.{item_fits, row_of_items, says_something}
use Rattle.dict_format.specs.Views.{Gives}
use Rattle.dict_format.proofs.Exactness.{item_exact, items-none}
use Rattle.dict_format.proofs.KeyReading.{key_is}
use Rattle.dict_format.proofs.LineTexts.{body-sound, body-cut, texts-sound, texts-complete, slashed-texts, slashed-none}

-- One of each

-- a line has one reading and body at most
body_once : {line reading body r b : List ℕ} → HasBody line reading body → HasBody line r b
    → (reading ≡ r) × (body ≡ b)
body_once {line = line} {reading = reading} {body = body} {r = r} {b = b} has other =
    let (rest, at, is) = body-cut line reading body has in
    let (more, again, also) = body-cut line r b other in
    let same = some_pair_parts reading r rest more (sym at ∙ again) in
    (same.0, sym is ∙ ap without_spaces same.1 ∙ also)

-- the key of a valid reading is read
key_at-valid : (part : Part) (reading : List ℕ) → lacks 0x20 reading ≡ true
    → is_row_key (record { part = part; reading = reading }) ≡ true
    → key_at part reading ≡ Ok (record { part = part; reading = reading })
unfolding key_at
key_at-valid part reading none valid =
    grind (arith, key_is part reading none _ _ _ refl refl refl)

-- what follows on what followed
and_then-again : {X Y Z : Type 0} (read : Result X LineReason) (f : X → Result Y LineReason)
    (g : Y → Result Z LineReason) → and_then (and_then read f) g ≡ and_then read (λ x. and_then (f x) g)
and_then-again (Ok x) f g = refl
and_then-again (Err reason) f g = refl

-- What reading tells

-- no reason fits of those in a list
abbrev pub NoneFits : Part → List ℕ → List LineReason → Type 0
NoneFits part line others = AllByRecursion (λ other. Fits part line other → ⊥) others

-- the first of the reasons in a list that fits
abbrev IsFirst : Part → List ℕ → List LineReason → LineReason → Type 0
IsFirst part line tried first =
    (earlier later : List LineReason) × (tried ≡ earlier ++ first ∷ later) × Fits part line first
    × NoneFits part line earlier

-- what is told of a line by some reasons, one after another: the first that fits it, or the row that it spells
Told : Part → List ℕ → List LineReason → Result Row LineReason → Type 0
Told part line [] read = (row : Row) × SpellsRow part line row × (read ≡ Ok row)
Told part line (reason ∷ tried) read =
    (Fits part line reason × (read ≡ Err reason)) ⊎ ((Fits part line reason → ⊥) × Told part line tried read)

module _ (part : Part) (line : List ℕ) where
  -- so a row that is read is spelled
  told-row : (tried : List LineReason) (read : Result Row LineReason) (row : Row) → Told part line tried read
      → read ≡ Ok row → SpellsRow part line row
  unfolding Told
  told-row [] read row (other, spells, is) e = let same : other ≡ row = cc in subst (SpellsRow part line) same spells
  told-row (reason ∷ tried) read row (inl (fits, is)) e = cc
  told-row (reason ∷ tried) read row (inr (unfit, tells)) e = told-row tried read row tells e

  -- and a reason that is read is the first that fits
  told-first : (tried : List LineReason) (read : Result Row LineReason) (first : LineReason)
      → Told part line tried read → read ≡ Err first → IsFirst part line tried first
  unfolding Told
  told-first [] read first (row, spells, is) e = cc
  told-first (reason ∷ tried) read first (inl (fits, is)) e =
      let same : reason ≡ first = cc in
      ([], tried, ap (λ r. r ∷ tried) same, subst (Fits part line) same fits, tt)
  told-first (reason ∷ tried) read first (inr (unfit, tells)) e =
      let (earlier, more, order, fits, none) = told-first tried read first tells e in
      (reason ∷ earlier, more, ap (λ rs. reason ∷ rs) order, fits, (unfit, none))

  -- and the first that fits is read
  told-reason : (tried earlier : List LineReason) (first : LineReason) (more : List LineReason)
      (read : Result Row LineReason) → Told part line tried read → tried ≡ earlier ++ first ∷ more
      → Fits part line first → NoneFits part line earlier → read ≡ Err first
  unfolding Told
  told-reason [] [] first more read tells e fits none = cc
  told-reason [] (x ∷ earlier) first more read tells e fits none = cc
  told-reason (reason ∷ tried) [] first more read (inl (so, is)) e fits none = cc
  told-reason (reason ∷ tried) [] first more read (inr (unfit, tells)) e fits none =
      let same : first ≡ reason = cc in absurd (unfit (subst (Fits part line) same fits))
  told-reason (reason ∷ tried) (x ∷ earlier) first more read (inl (so, is)) e fits none =
      let same : reason ≡ x = cc in absurd (none.0 (subst (Fits part line) same so))
  told-reason (reason ∷ tried) (x ∷ earlier) first more read (inr (unfit, tells)) e fits none =
      let rest : tried ≡ earlier ++ first ∷ more = cc in
      told-reason tried earlier first more read tells rest fits none.1

  -- a reason that fits is told, and else what those behind it tell
  here : (reason : LineReason) (tried : List LineReason) → Fits part line reason
      → Told part line (reason ∷ tried) (Err reason)
  unfolding Told
  here reason tried fits = inl (fits, refl)

  later : (reason : LineReason) (tried : List LineReason) (read : Result Row LineReason)
      → (Fits part line reason → ⊥) → Told part line tried read → Told part line (reason ∷ tried) read
  unfolding Told
  later reason tried read unfit rest = inr (unfit, rest)

  told_ok : (row : Row) → SpellsRow part line row → Told part line [] (Ok row)
  unfolding Told
  told_ok row is = (row, is, refl)

  -- so by a test that the reason makes
  by_test : {X : Type 0} (reason : LineReason) (tried : List LineReason) (b : Bool) (more : Result X LineReason)
      (f : X → Result Row LineReason) → (b ≡ true → Fits part line reason)
      → (b ≡ false → Fits part line reason → ⊥) → (b ≡ false → Told part line tried (and_then more f))
      → Told part line (reason ∷ tried) (and_then (if b then Err reason else more) f)
  by_test reason tried true more f fits other rest = here reason tried (fits refl)
  by_test reason tried false more f fits other rest = later reason tried _ (other refl) (rest refl)

  by_pass : {X : Type 0} (reason : LineReason) (tried : List LineReason) (b : Bool) (more : Result X LineReason)
      (f : X → Result Row LineReason) → (b ≡ false → Fits part line reason)
      → (b ≡ true → Fits part line reason → ⊥) → (b ≡ true → Told part line tried (and_then more f))
      → Told part line (reason ∷ tried) (and_then (if b then more else Err reason) f)
  by_pass reason tried true more f fits other rest = later reason tried _ (other refl) (rest refl)
  by_pass reason tried false more f fits other rest = here reason tried (fits refl)

  -- or by a value that is there where it doesn't fit
  by_value : {X : Type 0} (reason : LineReason) (tried : List LineReason) (o : Option X)
      (f : X → Result Row LineReason) → (o ≡ None → Fits part line reason)
      → ((x : X) → o ≡ Some x → Fits part line reason → ⊥) → ((x : X) → o ≡ Some x → Told part line tried (f x))
      → Told part line (reason ∷ tried) (and_then (or_reason reason o) f)
  by_value reason tried None f fits other rest = here reason tried (fits refl)
  by_value reason tried (Some x) f fits other rest = later reason tried _ (other x refl) (rest x refl)

  module _ (short : byte_len line ≤ line_limit) (reading body : List ℕ) (has : HasBody line reading body) where
    not_reading : (test : List ℕ → Bool) → test reading ≡ false → ReadingIs test line → ⊥
    not_reading test not_so (r, b, other, so) =
        both_ways (test reading) not_so (ap test (body_once has other).0 ∙ so)

    -- so its texts are the only ones
    module _ (texts : List (List ℕ)) (between : HasTexts body texts) where
      only_texts : (r b : List ℕ) (ts : List (List ℕ)) → HasBody line r b → HasTexts b ts → texts ≡ ts
      only_texts r b ts other more =
          same_Some texts ts (sym (texts-complete body texts between) ∙ ap texts_at (body_once has other).1
          ∙ texts-complete b ts more)

      -- and so are its items
      module _ (items : List Item) (said : SpellsItems part texts items) where
        only_items : (r b : List ℕ) (ts : List (List ℕ)) (others : List Item) → HasBody line r b → HasTexts b ts
            → SpellsItems part ts others → items ≡ others
        only_items r b ts others other more also =
            all-once (item_format part) (item_exact part) items others ts
            (subst (λ us. SpellsItems part us items) (only_texts r b ts other more) said) also

        -- by the row
        told_row : is_row_key (record { part = part; reading = reading }) ≡ true → list_all item_fits items ≡ true
            → Told part line (Empty ∷ []) (some_row_of (record { part = part; reading = reading }) items)
        unfolding some_row_of
        told_row valid fit =
            let row = row_of_items (record { part = part; reading = reading }) items in
            elim (cases_Bool (says_something row)) [
              | inl something ↦ rw something
                  (later Empty [] _ (λ (r, b, ts, others, other, more, also, silent).
                  both_ways (says_something row) (rw (only_items r b ts others other more also) silent) something)
                  (told_ok row (record {
                    reading = reading;
                    body = body;
                    texts = texts;
                    items = items;
                    not_long = short;
                    has_body = has;
                    valid = valid;
                    has_texts = between;
                    has_items = said;
                    fit = fit;
                    row_is = refl;
                    something = something;
                  })))
              | inr silent ↦ rw silent (here Empty [] (reading, body, texts, items, has, between, said, silent))
            ]

    -- by the items
    told_items : (texts : List (List ℕ)) → HasTexts body texts
        → is_row_key (record { part = part; reading = reading }) ≡ true
        → Told part line (Block ∷ LongCandidate ∷ Empty ∷ []) (and_then (fit_items_at part texts)
        (some_row_of (record { part = part; reading = reading })))
    unfolding fit_items_at
    told_items texts between valid =
        rw and_then-again
        (by_value Block (LongCandidate ∷ Empty ∷ []) (all (item_format part) texts)
        (λ items. and_then (if list_all item_fits items then Ok items else Err LongCandidate)
        (some_row_of (record { part = part; reading = reading })))
        (λ none. (reading, body, texts, items-none part texts none, has, between, are none))
        (λ items e (r, b, ts, ari, other, more, none).
        none items (subst (λ us. SpellsItems part us items) (only_texts texts between r b ts other more) (are e)))
        (λ items e.
        by_pass LongCandidate (Empty ∷ []) (list_all item_fits items) (Ok items)
        (some_row_of (record { part = part; reading = reading }))
        (λ unfit. (reading, body, texts, items, has, between, are e, unfit))
        (λ fit (r, b, ts, others, other, more, also, unfit).
        both_ways (list_all item_fits items)
        (ap (list_all item_fits) (only_items texts between items (are e) r b ts others other more also) ∙ unfit) fit)
        (told_row texts between items (are e) valid)))
      where
        are : {o : Option (List Item)} → all (item_format part) texts ≡ o → AreAll (item_format part) texts o
        are e = subst (AreAll (item_format part) texts) e (all-are (item_format part) (item_exact part) texts)

    -- by the reading and the texts
    told_key : Told part line (BadReading ∷ LongReading ∷ OkuriKey ∷ NoSlash ∷ Block ∷ LongCandidate ∷ Empty ∷ [])
        (and_then (key_at part reading) (λ k. and_then (or_reason NoSlash (texts_at body))
        (λ texts. and_then (fit_items_at part texts) (some_row_of k))))
    unfolding key_at
    told_key =
        by_test BadReading _ (is_bad_reading reading) _ _ (λ bad. (reading, body, has, bad))
        (not_reading is_bad_reading) (λ good.
        by_test LongReading _ (nat_lt (reading_limit part) (byte_len reading)) _ _ (λ long. (reading, body, has, long))
        (not_reading (λ r. nat_lt (reading_limit part) (byte_len r))) (λ fits.
        by_test OkuriKey _ (lacks_letter part reading) _ _ (λ lacking. (reading, body, has, lacking))
        (not_reading (lacks_letter part)) (λ letter.
        by_value NoSlash _ (texts_at body) _ (λ none. (reading, body, has, slashed-none body none))
        (λ texts e (r, b, other, not_so).
        both_ways (is_slashed body) (ap is_slashed (body_once has other).1 ∙ not_so)
        (slashed-texts body texts (texts-sound body texts e)))
        (λ texts e. told_items texts (texts-sound body texts e)
        (key_is part reading has.before false false false good fits letter)))))

-- what reading gives is told of the line
told : (part : Part) (line : List ℕ) → Told part line reasons (line_reading part line)
unfolding line_reading row_reading
told part line =
    elim (cases_Bool (nat_lt line_limit (byte_len line))) [
      | inl long ↦ rw long (here part line LongLine _ (ltb-true line_limit (byte_len line) long))
      | inr fits ↦
          let short : byte_len line ≤ line_limit = ltb-false line_limit (byte_len line) fits in
          rw fits (later part line LongLine _ _ (λ long. absurd (omega (arith, short, long)))
          (by_value part line NoSpace _ (cut is_space line) _ (cut-none is_space line)
          (λ parts e none. none-some parts (sym (cut-nowhere is_space line none) ∙ e))
          (λ parts e. told_key part line short parts.0 _ (body-sound line parts.0 parts.1 e))))
    ]

-- What is told is all

module _ (part : Part) (line : List ℕ) where
  -- reading gives a row that is spelled, or the first reason
  spelled : (row : Row) → line_reading part line ≡ Ok row → SpellsRow part line row
  spelled row e = told-row part line reasons _ row (told part line) e

  reasoned : (first : LineReason) → line_reading part line ≡ Err first → IsReason part line first
  reasoned first e =
      let (earlier, more, order, fits, none) = told-first part line reasons _ first (told part line) e in
      record { earlier = earlier; later = more; order = order; fits = fits; none_before = none }

  -- it gives each row that is spelled
  pub line_reading-row : (row : Row) → SpellsRow part line row → line_reading part line ≡ Ok row
  unfolding line_reading row_reading fit_items_at some_row_of
  line_reading-row row is =
      let (rest, at, body) = body-cut line is.reading is.body is.has_body in
      let short = le-ltb line_limit (byte_len line) is.not_long in
      let key = key_at-valid part is.reading is.has_body.before is.valid in
      let texts = texts-complete is.body is.texts is.has_texts in
      let items = all-complete (item_format part) (item_exact part) is.items is.texts is.has_items in
      let something = rw is.row_is at is.something in
      rw (short, at, key, body, texts, items, is.fit, something) (ap Ok (sym is.row_is))

  -- so a line spells one at most
  pub row_once : (row other : Row) → SpellsRow part line row → SpellsRow part line other → row ≡ other
  row_once row other is also = cc (line_reading-row row is, line_reading-row other also)

  -- and it gives each first reason
  pub line_reading-reason : (first : LineReason) → IsReason part line first → line_reading part line ≡ Err first
  line_reading-reason first is =
      told-reason part line reasons is.earlier first is.later _ (told part line) is.order is.fits is.none_before

  -- so a line has one at most, and none where it spells a row
  pub reason_once : (first other : LineReason) → IsReason part line first → IsReason part line other → first ≡ other
  reason_once first other is also = cc (line_reading-reason first is, line_reading-reason other also)

  pub not_both : (row : Row) (first : LineReason) → SpellsRow part line row → IsReason part line first → ⊥
  not_both row first is why = cc (line_reading-row row is, line_reading-reason first why)

  -- and the row that is read is the one that is spelled
  pub read-exact : (row : Row) → SpellsRow part line row ↔ (row_of_line part line ≡ Some row)
  read-exact row = (λ is. ap result_ok (line_reading-row row is), λ e. spelled row (grind arith))

  -- a line spells a row or has a first reason
  pub row_or_reason : ((row : Row) × SpellsRow part line row) ⊎ ((first : LineReason) × IsReason part line first)
  row_or_reason = by (line_reading part line) refl
    where
      by : (read : Result Row LineReason) → line_reading part line ≡ read
          → ((row : Row) × SpellsRow part line row) ⊎ ((first : LineReason) × IsReason part line first)
      by (Ok row) e = inl (row, spelled row e)
      by (Err first) e = inr (first, reasoned first e)

  -- Answers

  pub answers_ok : (answer : Result Row LineFault) → Gives (λ row. row) answer (line_reading part line)
      → IfOk answer (SpellsRow part line)
  answers_ok (Ok row) e = spelled row e
  answers_ok (Err fault) e = tt

  module _ (answer : Result Row LineFault) (gives : Gives (λ row. row) answer (line_reading part line)) where
    pub answers_only : (row : Row) → SpellsRow part line row → AnswersUnless Memory answer (Ok row)
    answers_only row is = grind (arith, line_reading-row row is)

    pub answers_reason : (first : LineReason) → IsErrOf answer (Reason first) → IsReason part line first
    answers_reason first is =
        reasoned first (subst (λ (a : Result Row LineFault). Gives (λ row. row) a (line_reading part line)) is gives)

    pub answers_only_reason : (first : LineReason) → IsReason part line first
        → AnswersUnless Memory answer (Err (Reason first))
    answers_only_reason first is = grind (arith, line_reading-reason first is)

  -- The key alone

  -- it is that of the row that the line spells
  key_reading-row : (row : Row) → SpellsRow part line row → key_reading part line ≡ Ok row.key
  unfolding key_reading
  key_reading-row row is =
      let (rest, at, _) = body-cut line is.reading is.body is.has_body in
      let short : nat_lt line_limit (byte_len line) ≡ false = le-ltb line_limit (byte_len line) is.not_long in
      rw (short, at) (key_at-valid part is.reading is.has_body.before is.valid
      ∙ ap (λ r. Ok r.key) (sym is.row_is))

  -- and each reason of it is that of the line
  key_reading-reason : (first : LineReason) → key_reading part line ≡ Err first → line_reading part line ≡ Err first
  unfolding key_reading line_reading row_reading
  key_reading-reason first e = grind arith

  module _ (answer : Result RowKey LineFault) (gives : Gives (λ key. key) answer (key_reading part line)) where
    pub key_answers : (row : Row) → SpellsRow part line row → AnswersUnless Memory answer (Ok row.key)
    key_answers row is = grind (arith, key_reading-row row is)

    pub key_answers_reason : (first : LineReason) → IsErrOf answer (Reason first) → IsReason part line first
    key_answers_reason first is =
        reasoned first (key_reading-reason first
        (subst (λ (a : Result RowKey LineFault). Gives (λ key. key) a (key_reading part line)) is gives))
