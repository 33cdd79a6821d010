use Rattle.std.proofs.Common.{◌≡◌, ◌∙◌, ◌||◌, Bool, List, ℕ, Some, sym, ap, rules}
use Rattle.std.specs.Str.{chars}
use Rattle.exact_readers.specs.ExactLaws.{shrinks}
use Rattle.skk_calls.specs.PlainCands.{cands_in, slashed_item, word_and_note}
use Rattle.skk_calls.specs.PlainLaws.{slashed_exact}
use Rattle.skk_calls.specs.Rows.{has_text, same_text, words_of}
use Rattle.skk_calls.proofs.FirstItems.{first_word, no_word}
use Rattle.skk_calls.proofs.plain_cands.has_word.Goals as goal

-- the words of a text have this one, by whether the first is the same
by_first : (text item behind word first : List ℕ) (b : Bool) → slashed_item.step text ≡ Some (item, behind)
    → first ≡ (word_and_note item).0 → b ≡ same_text word first
    → has_text (words_of (cands_in text)) word ≡ (b || has_text (words_of (cands_in behind)) word)
by_first text item behind word first b is word_is same =
    first_word text item behind is word
    ∙ ap (λ one. one || has_text (words_of (cands_in behind)) word) (sym (same ∙ ap (same_text word) word_is))

pub returns-then-is_same : goal.returns-then-is_same
returns-then-is_same c =
    let behind = chars c.in-Some.behind.now in
    let word = chars c.args.word.now in
    sym (c.loop-item.invariant.left
    ∙ by_first (chars c.loop-item.rest.now) (chars c.in-Some.item.now) behind word (chars c.word_and_note.result.0.now)
    c.is_same.result (sym c.in-Some.ensures) (ap (λ (parts : List ℕ × List ℕ). parts.0) c.word_and_note.ensures)
    c.is_same.ensures
    ∙ ap (λ one. one || has_text (words_of (cands_in behind)) word) c.if-is_same.true)

pub loop-item-smaller : goal.loop-item-smaller
loop-item-smaller c =
    shrinks slashed_item slashed_exact (chars c.loop-item.rest.now) (chars c.in-Some.item.now)
    (chars c.in-Some.behind.now) (sym c.in-Some.ensures)

pub loop-item-preserved : goal.loop-item-preserved
loop-item-preserved c =
    let behind = chars c.in-Some.behind.now in
    let word = chars c.args.word.now in
    record {
      text = search rules;
      left =
          c.loop-item.invariant.left
          ∙ by_first (chars c.loop-item.rest.now) (chars c.in-Some.item.now) behind word
          (chars c.word_and_note.result.0.now) c.is_same.result (sym c.in-Some.ensures)
          (ap (λ (parts : List ℕ × List ℕ). parts.0) c.word_and_note.ensures) c.is_same.ensures
          ∙ ap (λ one. one || has_text (words_of (cands_in behind)) word) c.if-is_same.false;
    }

pub returns : goal.returns
returns c =
    sym (c.loop-item.invariant.left
    ∙ no_word (chars c.loop-item.rest.now) (sym c.in_default.ensures) (chars c.args.word.now))
