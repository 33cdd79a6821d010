-- Lines that are drawn one after another: those so far, and those that are left.
use Rattle.std.proofs.Common.{◌≡◌, ◌≤◌, ◌<◌, ◌∙◌, ap, ap₂, sym, ℕ, ◌+◌, ◌-◌, suc, List, [], ◌∷◌, ◌++◌, append_assoc}
use Rattle.std.proofs.Common.{arith}
use Rattle.std.proofs.lemmas.List.{append-nil}
use Rattle.key_scripts.specs.declared.line.Line.{Line}
use Rattle.load_input.specs.Lines.{behind_line, behind_round, line_drawn, lines_drawn, round}

-- one line more of a round
pub round-on : (lines all : List Line) (line : Line) (state state' before sessions : ℕ) → before < sessions
    → line ≡ line_drawn state (before + 1) → state' ≡ behind_line state
    → lines ++ round state (before + 1) (sessions - before) ≡ all
    → (lines ++ line ∷ []) ++ round state' (before + 1 + 1) (sessions - (before + 1)) ≡ all
round-on lines all line state state' before sessions less is next kept =
    let left : sessions - before ≡ suc (sessions - (before + 1)) = omega arith in
    append_assoc lines (line ∷ []) (round state' (before + 1 + 1) (sessions - (before + 1)))
    ∙ ap₂ (λ (l : Line) (s : ℕ). lines ++ l ∷ round s (before + 1 + 1) (sessions - (before + 1))) is next
    ∙ ap (λ n. lines ++ round state (before + 1) n) (sym left) ∙ kept

pub state-on : (state state' before sessions all : ℕ) → before < sessions → state' ≡ behind_line state
    → behind_round state (sessions - before) ≡ all → behind_round state' (sessions - (before + 1)) ≡ all
state-on state state' before sessions all less next kept =
    let left : sessions - before ≡ suc (sessions - (before + 1)) = omega arith in
    ap (λ s. behind_round s (sessions - (before + 1))) next ∙ ap (behind_round state) (sym left) ∙ kept

-- a round at its end
pub round-end : (lines all : List Line) (state session before sessions : ℕ) → sessions ≤ before
    → lines ++ round state session (sessions - before) ≡ all → lines ≡ all
round-end lines all state session before sessions end kept =
    let none : 0 ≡ sessions - before = omega arith in
    sym (append-nil lines) ∙ ap (λ n. lines ++ round state session n) none ∙ kept

pub state-end : (state before sessions all : ℕ) → sessions ≤ before
    → behind_round state (sessions - before) ≡ all → state ≡ all
state-end state before sessions all end kept =
    let none : 0 ≡ sessions - before = omega arith in ap (behind_round state) none ∙ kept

-- one round more
pub turn-on : (drawn more all : List Line) (state state' sessions turn lines : ℕ) → turn < lines
    → more ≡ drawn ++ round state 1 sessions → state' ≡ behind_round state sessions
    → drawn ++ lines_drawn state sessions (lines - turn) ≡ all
    → more ++ lines_drawn state' sessions (lines - (turn + 1)) ≡ all
turn-on drawn more all state state' sessions turn lines less is next kept =
    let left : lines - turn ≡ suc (lines - (turn + 1)) = omega arith in
    ap₂ (λ (m : List Line) (s : ℕ). m ++ lines_drawn s sessions (lines - (turn + 1))) is next
    ∙ append_assoc drawn (round state 1 sessions)
    (lines_drawn (behind_round state sessions) sessions (lines - (turn + 1)))
    ∙ ap (λ n. drawn ++ lines_drawn state sessions n) (sym left) ∙ kept

-- all rounds
pub turn-end : (drawn all : List Line) (state sessions turn lines : ℕ) → lines ≤ turn
    → drawn ++ lines_drawn state sessions (lines - turn) ≡ all → drawn ≡ all
turn-end drawn all state sessions turn lines end kept =
    let none : 0 ≡ lines - turn = omega arith in
    sym (append-nil drawn) ∙ ap (λ n. drawn ++ lines_drawn state sessions n) none ∙ kept
