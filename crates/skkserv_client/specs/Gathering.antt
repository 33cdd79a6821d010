-- The candidates of a reply while its texts are gone through.
use Rattle.std.specs.Prelude.{◌≡◌, ℕ, ◌+◌, true, false, if◌then◌else◌, Result, Ok, Err, List, [], ◌∷◌}
use Rattle.std.specs.List.{list_all}
use Rattle.skk_text.specs.Lists.{is_empty}
use Rattle.skk_text.specs.Text.{byte_len}
use Rattle.skk_calls.specs.Rows.{Cand, is_cand}
use Rattle.word_sets.specs.Firsts.{with_new}
use Rattle.dict_format.specs.ItemsAlone.{cand_alone, is_long}
use Rattle.skkserv_client.specs.declared.told.AskFault.{AskFault}
use Rattle.skkserv_client.specs.declared.told.AskFault.TheVariants.{BadReply, Memory}

-- candidates with one more, where its word is not empty and a new one
abbrev pub with_cand : List Cand → Cand → List Cand
with_cand cands cand = if is_empty cand.word then cands else with_new (λ (c : Cand). c.word) cands cand

-- readings with one more, where it is not empty and a new one
abbrev pub with_reading : List (List ℕ) → List ℕ → List (List ℕ)
with_reading readings text = if is_empty text then readings else with_new (λ reading. reading) readings text

-- candidates with those of texts, where none of these is too long, of which the first stands at this byte
abbrev pub gathered : ℕ → List Cand → List (List ℕ) → Result (List Cand) AskFault
gathered at cands [] = Ok cands
gathered at cands (text ∷ texts) =
    if is_long (cand_alone text) then Err (BadReply at)
    else gathered (at + (byte_len text + 1)) (with_cand cands (cand_alone text)) texts

-- candidates have more, which are candidates where these are
pub record AddsCand (text : List ℕ) (cands cands' : List Cand) : Type 0 where
  pub short : is_long (cand_alone text) ≡ false
  pub added : cands' ≡ with_cand cands (cand_alone text)
  pub valid : list_all is_cand cands ≡ true → list_all is_cand cands' ≡ true

-- a text that stands at a byte is added to candidates, or is too long, unless memory is out
abbrev pub AddsText : List ℕ → ℕ → List Cand → List Cand → Result Unit AskFault → Type 0
AddsText text at cands cands' (Ok done) = AddsCand text cands cands'
AddsText text at cands cands' (Err Memory) = Unit {0}
AddsText text at cands cands' (Err fault) = (is_long (cand_alone text) ≡ true) × (fault ≡ BadReply at)

-- the result has the candidates of texts behind `1/`, or the place of one that is too long, unless memory is out
abbrev pub GivesCands : List (List ℕ) → Result (List Cand) AskFault → Type 0
GivesCands texts (Err Memory) = Unit {0}
GivesCands texts result = result ≡ gathered 2 [] texts
