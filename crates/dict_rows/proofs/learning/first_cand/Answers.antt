use Rattle.std.proofs.Common.{◌∙◌, find, sym, ap}
use Rattle.std.specs.Option.{option_copied}
use Rattle.skk_calls.specs.Rows.{same_text}
use Rattle.dict_rows.proofs.Blocks.{first_kept, first_taken, first_new}
use Rattle.dict_rows.proofs.learning.first_cand.Goals as goal

pub returns-in_default : goal.returns-in_default
returns-in_default c =
    first_new c.args.cands.now c.args.cand.now
    (ap (λ word. find (λ other. same_text other.word word) c.args.cands.now) (sym c.word.ensures.value)
    ∙ sym c.cand_of.ensures ∙ ap option_copied c.in_default.is)

pub returns-then-keeps_note : goal.returns-then-keeps_note
returns-then-keeps_note c =
    first_kept c.args.cands.now c.args.cand.now c.in-Some.known.now
    (ap (λ word. find (λ other. same_text other.word word) c.args.cands.now) (sym c.word.ensures.value)
    ∙ sym c.cand_of.ensures ∙ ap option_copied c.in-Some.is)
    (sym c.keeps_note.ensures ∙ c.if-keeps_note.true)

pub returns-else-keeps_note : goal.returns-else-keeps_note
returns-else-keeps_note c =
    first_taken c.args.cands.now c.args.cand.now c.in-Some.known.now
    (ap (λ word. find (λ other. same_text other.word word) c.args.cands.now) (sym c.word.ensures.value)
    ∙ sym c.cand_of.ensures ∙ ap option_copied c.in-Some.is)
    (sym c.keeps_note.ensures ∙ c.if-keeps_note.false)
