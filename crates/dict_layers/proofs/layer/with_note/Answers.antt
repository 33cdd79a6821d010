use Rattle.std.proofs.Common.{◌≡◌, ◌∙◌, ℕ, List, [], Some, ap, sym, position}
use Rattle.std.proofs.lemmas.Result.{MatchResult-weaker}
use Rattle.skk_calls.specs.Rows.{same_text, words_of}
use Rattle.dict_layers.proofs.BlockFirst.{note_at, no_note}
use Rattle.dict_layers.proofs.layer.with_note.Goals as goal

pub returns-in-Some : goal.returns-in-Some
returns-in-Some c =
    let cands = c.args.cands.now in
    let word = c.args.word.now in
    let found : position (same_text word) (words_of cands) ≡ Some c.in-Some.place =
    ap (position (same_text word)) (sym c.requires.words) ∙ sym c.in-Some.ensures in
    MatchResult-weaker c.copy.result c.copy.ensures
    (λ cand copy.
    copy ∙ note_at cands word c.in-Some.place c.index-cands-place.result found c.index-cands-place.is)
    (λ fault none. none)

pub returns-in_ok-copy-in-None : goal.returns-in_ok-copy-in-None
returns-in_ok-copy-in-None c =
    c.of_word.ensures
    ∙ ap (λ (word : List ℕ). record { word = word; note = [] }) c.in_ok-copy-in-None.ensures
    ∙ ap (λ (note : List ℕ). record { word = c.args.word.now; note = note })
    (sym (no_note c.args.cands.now c.args.word.now
    (ap (position (same_text c.args.word.now)) (sym c.requires.words) ∙ sym c.in-None.ensures)))
