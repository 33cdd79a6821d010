-- Texts that are known, and blocks that are found by them.
use Rattle.std.proofs.Common.{◌≡◌, ◌∙◌, ℕ, true, false, not, None, Some, List, [], ◌∷◌, refl, ap, arith}
use Rattle.std.proofs.Common.{length, nat_lt, one-add, position, slice_get}
use Rattle.std.specs.List.{fold, position_or_len}
use Rattle.std.proofs.lemmas.Bool.Decides.{nat_tests}
use Rattle.std.proofs.lemmas.Grind.{common_steps}
use Rattle.skk_text.specs.FilterLaws.{filter_same}
use Rattle.skk_calls.specs.Found.{block_of, without_hidden}
use Rattle.skk_calls.specs.KeyLaws.{same_other}
use Rattle.skk_calls.specs.Rows.{Block, Cand, same_text, has_text, okuri_of, texts_differ}
use Rattle.word_sets.specs.FirstLaws.{fold_new-fresh, texts_fold_new, texts_stay}
use Rattle.word_sets.specs.Firsts.{with_new}
use Rattle.dict_expr.specs.Rows.{texts_without}

-- what is made known of texts is what they have
knows : (known others : List (List ℕ)) (text : List ℕ) → known ≡ fold (with_new (λ (t : List ℕ). t)) [] others
    → has_text known text ≡ has_text others text
knows known others text is = ap (λ texts. has_text texts text) is ∙ texts_fold_new [] others text

-- so texts without what is known are those without the others
pub known_left : (texts known others : List (List ℕ)) → known ≡ fold (with_new (λ (t : List ℕ). t)) [] others
    → texts_without texts known ≡ texts_without texts others
known_left texts known others is =
    filter_same (λ text. not (has_text known text)) (λ text. not (has_text others text))
    (λ text. ap not (knows known others text is)) texts

pub known_hidden : (cands : List Cand) (known others : List (List ℕ))
    → known ≡ fold (with_new (λ (t : List ℕ). t)) [] others
    → without_hidden known cands ≡ without_hidden others cands
known_hidden cands known others is =
    filter_same (λ (cand : Cand). not (has_text known cand.word)) (λ cand. not (has_text others cand.word))
    (λ cand. ap not (knows known others cand.word is)) cands

-- the okurigana of blocks are all known, where they differ
pub okuri_known : (blocks : List Block) → texts_differ (okuri_of blocks) ≡ true
    → fold (with_new (λ (text : List ℕ). text)) [] (okuri_of blocks) ≡ okuri_of blocks
okuri_known blocks differ =
    fold_new-fresh (λ (text : List ℕ). text) (okuri_of blocks) (ap texts_differ (texts_stay (okuri_of blocks)) ∙ differ)

pub ruleset all_known = (common_steps, okuri_known)

-- the block at the place of an okurigana is the one of it
pub block_there : (blocks : List Block) (okuri : List ℕ)
    → slice_get blocks (position_or_len (same_text okuri) (okuri_of blocks)) ≡ block_of okuri blocks
block_there [] okuri = refl
block_there (block ∷ blocks) okuri =
    grind (
      arith,
      same_other block.okuri okuri,
      same_other okuri block.okuri,
      one-add (position_or_len (same_text okuri) (okuri_of blocks)),
      block_there blocks okuri,
    )

pub block_at_place : (blocks : List Block) (okuri : List ℕ) (place : ℕ)
    → position (same_text okuri) (okuri_of blocks) ≡ Some place → slice_get blocks place ≡ block_of okuri blocks
block_at_place blocks okuri place is =
    ap (slice_get blocks) (grind arith) ∙ block_there blocks okuri

-- an okurigana that stands nowhere has none
none_past : (blocks : List Block) (okuri : List ℕ)
    → nat_lt (position_or_len (same_text okuri) (okuri_of blocks)) (length (okuri_of blocks)) ≡ false
    → block_of okuri blocks ≡ None
none_past [] okuri none = refl
none_past (block ∷ blocks) okuri none = grind (arith, nat_tests, same_other block.okuri okuri, none_past blocks okuri)

pub no_block : (blocks : List Block) (okuri : List ℕ) → position (same_text okuri) (okuri_of blocks) ≡ None
    → block_of okuri blocks ≡ None
no_block blocks okuri none = none_past blocks okuri (grind arith)
