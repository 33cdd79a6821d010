use Rattle.std.proofs.Common.{◌≡◌, Err, ap, arith, refl, subst}
use Rattle.skk_text.specs.Text.{byte_len}
use Rattle.skk_calls.specs.Rows.{IsBadNote}
use Rattle.skk_calls.specs.declared.cand.CandFault.TheVariants.{BadNote}
use Rattle.skk_calls.proofs.BadNotes.{no_bytes, fault-one_place}
use Rattle.skk_calls.proofs.cand.Cand.new.Goals as goal

pub returns-then-byte_len-eq0-clause-empty : goal.returns-then-byte_len-eq0-clause-empty
returns-then-byte_len-eq0-clause-empty c = (λ e. no_bytes c.args.word (omega arith), λ e. refl)

pub returns-then-byte_len-eq0-clause-bad_note : goal.returns-then-byte_len-eq0-clause-bad_note
returns-then-byte_len-eq0-clause-bad_note c at = (λ e. cc, λ h. absurd (h.0 (no_bytes c.args.word (omega arith))))

pub returns-then-byte_len-eq0-clause-too_long : goal.returns-then-byte_len-eq0-clause-too_long
returns-then-byte_len-eq0-clause-too_long c bytes = (λ e. cc, λ h. absurd (h.0 (no_bytes c.args.word (omega arith))))

pub returns-in-Some-clause-bad_note : goal.returns-in-Some-clause-bad_note
returns-in-Some-clause-bad_note c at =
    let here : IsBadNote c.args.note c.in-Some.at =
    subst (λ note. IsBadNote note c.in-Some.at) c.as_str.ensures.characters c.in-Some.ensures in (
      λ e. let same_text : c.in-Some.at ≡ at = cc in
          ((λ empty. omega (arith, ap byte_len empty)), subst (IsBadNote c.args.note) same_text here),
      λ h. ap (λ place. Err (BadNote place)) (fault-one_place c.args.note c.in-Some.at at here h.1),
    )
