use Rattle.std.proofs.Common.{◌≡◌, ◌++◌, ◌∷◌, not, [], ◌∙◌, Bool, sym, ap, true, false, List, if◌then◌else◌}
use Rattle.std.specs.List.{filter, list_any}
use Rattle.std.proofs.lemmas.List.{append-nil}
use Rattle.skk_text.specs.Lists.{is_empty}
use Rattle.skk_calls.specs.Rows.{Block}
use Rattle.word_sets.specs.Firsts.{with_new}
use Rattle.dict_format.specs.Building.{joined_words}
use Rattle.dict_format.specs.RowOfItems.{has_word, words_with}
use Rattle.dict_format.proofs.Blocks.{joined-known, joined-new}
use Rattle.dict_format.proofs.row.add_block.Goals as goal
use Rattle.dict_format.proofs.row.add_block.Goals.{After-has_word}

-- the block that the okurigana and the words are
abbrev said : After-has_word → Block
said c = record { okuri = c.args.okuri; words = c.args.words.items }

-- the blocks with this one, where it has a word
kept : (c : After-has_word) (b : Bool) (before : List Block) → c.has_word.result ≡ b
    → before ++ (if b then said c ∷ [] else []) ≡ before ++ filter has_word (said c ∷ [])
kept c b before e =
    ap (λ some_word. before ++ (if some_word then said c ∷ [] else []))
    (sym e ∙ c.has_word.ensures ∙ ap (list_any (λ word. not (is_empty word))) c.deref.ensures.value)

pub returns-then-not-has_word : goal.returns-then-not-has_word
returns-then-not-has_word c before joins =
    joins ∙ ap joined_words (sym (append-nil before)
    ∙ kept (goal.at.returns-then-not-has_word c).After-has_word false before c.if-not-has_word.true)

pub returns-in-Some : goal.returns-in-Some
returns-in-Some c before joins =
    let so_far = (goal.at.returns-in-Some c).After-has_word in
    rw (c.as_str.ensures.characters, joins)
    (joined-known before (said so_far) c.in-Some.known.now c.add_words.new.known
    (rw (c.as_str.ensures.characters, joins) at c.in-Some.ensures.value)
    (c.in_ok-add_words-in-Some.ensures (words_with c.args.okuri before))
    ∙ ap joined_words (kept so_far true before c.if-not-has_word.false))

pub returns : goal.returns
returns c before joins =
    let so_far = (goal.at.returns c).After-has_word in
    (rw c.in_ok-string_of-in-None.ensures at c.in_ok-insert-in-None.ensures.ok)
    ∙ ap (λ pairs. with_new (λ pair. pair.0) pairs (c.args.okuri, c.add_words-in-None.new.known)) joins
    ∙ joined-new before (said so_far) c.add_words-in-None.new.known
    (rw (c.as_str.ensures.characters, joins) at c.in-None.ensures.value)
    (c.in_ok-add_words-in-None.ensures [] c.new-first.ensures)
    ∙ ap joined_words (kept so_far true before c.if-not-has_word.false)
