use Rattle.std.proofs.Common.{◌∷◌, [], ◌∙◌, sym, ap, rules}
use Rattle.std.specs.Str.{chars}
use Rattle.std.proofs.lemmas.List.{map-append}
use Rattle.exact_readers.specs.ExactLaws.{shrinks}
use Rattle.exact_readers.specs.LoopLaws.{taken_more, taken_last}
use Rattle.dict_format.specs.Lines.{slashed_text}
use Rattle.dict_format.specs.Views.{texts_seen}
use Rattle.dict_format.proofs.LineTexts.{slashed_exact}
use Rattle.dict_format.proofs.line.all_texts.Goals as goal

pub loop-text-preserved : goal.loop-text-preserved
loop-text-preserved c =
    let texts = c.loop-text.texts.items in
    record {
      text = search rules;
      taken =
          taken_more slashed_text slashed_exact (chars c.args.text.now) (texts_seen texts)
          (texts_seen c.push.new.self.items) (chars c.in-Some.text.now) (chars c.loop-text.rest.now)
          (chars c.in-Some.behind.now)
          (ap texts_seen c.in_ok-push.ensures.items
          ∙ map-append (λ text. chars text.now) texts (c.in-Some.text ∷ []))
          (sym c.in-Some.ensures) c.loop-text.invariant.taken;
    }

pub loop-text-smaller : goal.loop-text-smaller
loop-text-smaller c =
    shrinks slashed_text slashed_exact (chars c.loop-text.rest.now) (chars c.in-Some.text.now)
    (chars c.in-Some.behind.now) (sym c.in-Some.ensures)

pub returns : goal.returns
returns c =
    taken_last slashed_text slashed_exact (chars c.args.text.now) (texts_seen c.loop-text.texts.items)
    (chars c.loop-text.rest.now) (sym c.in_default.ensures) c.loop-text.invariant.taken
