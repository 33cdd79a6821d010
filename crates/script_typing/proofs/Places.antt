-- The places of sessions among tasks.
use Rattle.std.proofs.Common.{◌≡◌, ◌≢◌, ◌∙◌, ap, sym, refl, arith, ℕ, zero, suc, ◌<◌, ◌==◌, Bool, true}
use Rattle.std.proofs.Common.{false}
use Rattle.std.proofs.Common.{not, unwrap_or, List, [], ◌∷◌, ◌++◌, append_assoc, length, get_or, map}
use Rattle.std.proofs.lemmas.Bool.{eqb-true}
use Rattle.std.proofs.lemmas.Bool.{true_from_ne_false}
use Rattle.std.proofs.lemmas.List.Elements.{filter-append}
use Rattle.std.proofs.lemmas.List.Folds.{list_all_at}
use Rattle.std.specs.List.{list_all}
use Rattle.key_scripts.specs.Script.{session_of, own_lines}
use Rattle.key_scripts.specs.declared.line.Line.{Line}
use Rattle.session_machine.specs.Session.{Session, new_session}
use Rattle.script_typing.specs.MapLaws.{Ascend, AreAbove}
use Rattle.script_typing.specs.Woven.{Tasks, lines_at, place_of, first_session, differ}
use Rattle.script_typing.proofs.Tasks.{here-first, there-first}
use Rattle.script_typing.proofs.Weaving.{own-first}

-- the number of the session at a place
abbrev pub number_at : Tasks → ℕ → ℕ
number_at tasks place = get_or (map (λ task. task.0) tasks) place 0

-- the session that the lines at a place begin with
abbrev pub first_at : Tasks → ℕ → Session
first_at tasks place = get_or (map (λ task. first_session task.0 task.1) tasks) place (new_session 0 0)

-- each number above another is so at its place
above-at : (low : ℕ) (tasks : Tasks) (place : ℕ) → AreAbove low tasks → place < length tasks
    → low < number_at tasks place
above-at low [] place above within = absurd (omega (arith, within))
above-at low (task ∷ tasks) zero above within = above.0
above-at low (task ∷ tasks) (suc place) above within = above-at low tasks place above.1 (omega (arith, within))

-- the number at a place has that place
pub place-at : (tasks : Tasks) (place : ℕ) → Ascend tasks → place < length tasks
    → place_of tasks (number_at tasks place) ≡ place
place-at [] place ascend within = absurd (omega (arith, within))
place-at (task ∷ tasks) zero ascend within = grind arith
place-at (task ∷ tasks) (suc place) ascend within =
    grind (arith, above-at task.0 tasks place ascend.0, place-at tasks place ascend.1)

-- and a place that a number has is the place of that number
pub number-at : (tasks : Tasks) (number : ℕ) → place_of tasks number < length tasks
    → number_at tasks (place_of tasks number) ≡ number
number-at [] number within = absurd (omega (arith, within))
number-at (task ∷ tasks) number within = grind (arith, number-at tasks number)

-- the lines of a session in front, and behind another
pub lines-here : (task : ℕ × List Line) (tasks : Tasks) (number : ℕ) → (task.0 == number) ≡ true
    → lines_at (task ∷ tasks) number ≡ task.1
lines-here task tasks number is =
    ap (λ ls. unwrap_or ls []) (here-first task.0 number task.1 tasks (eqb-true task.0 number is))

pub lines-there : (task : ℕ × List Line) (tasks : Tasks) (number : ℕ) → (task.0 == number) ≡ false
    → lines_at (task ∷ tasks) number ≡ lines_at tasks number
lines-there task tasks number differs = ap (λ ls. unwrap_or ls []) (there-first task.0 number task.1 tasks differs)

-- the session that the lines at the place of a number begin with
pub first-at : (tasks : Tasks) (number : ℕ) → place_of tasks number < length tasks
    → first_at tasks (place_of tasks number) ≡ first_session number (lines_at tasks number)
first-at [] number within = absurd (omega (arith, within))
first-at (task ∷ tasks) number within =
    grind (arith, lines-here task tasks number, lines-there task tasks number, first-at tasks number)

-- there is a first line
abbrev pub are_some : List Line → Bool
are_some [] = false
are_some (line ∷ lines) = true

-- a session that has lines has a place
pub some-placed : (tasks : Tasks) (number : ℕ) → are_some (lines_at tasks number) ≡ true
    → place_of tasks number < length tasks
some-placed [] number some = absurd (cc some)
some-placed (task ∷ tasks) number some = grind (arith, lines-there task tasks number, some-placed tasks number)

some-behind : (front : List Line) (line : Line) (lines : List Line) → are_some (front ++ line ∷ lines) ≡ true
some-behind [] line lines = refl
some-behind (first ∷ front) line lines = refl

-- the session of each line has lines
pub all-named : (front lines : List Line)
    → list_all (λ line. are_some (own_lines (session_of line) (front ++ lines))) lines ≡ true
all-named front [] = refl
all-named front (line ∷ lines) =
    grind (
      arith,
      filter-append (λ (l : Line). session_of l == session_of line) front (line ∷ lines),
      own-first line lines,
      some-behind (own_lines (session_of line) front) line (own_lines (session_of line) lines),
      append_assoc front (line ∷ []) lines,
      all-named (front ++ line ∷ []) lines,
    )

-- what each passes, the one at a place passes
pub all-at : {A : Type 0} (test : A → Bool) (xs : List A) (place : ℕ) (d : A) → place < length xs
    → list_all test xs ≡ true → test (get_or xs place d) ≡ true
all-at test xs place d within all =
    true_from_ne_false (test (get_or xs place d)) (λ no. cc (sym all ∙ list_all_at test xs place d within no))

-- numbers that differ do so at different places
pub differ-at : (numbers : List ℕ) (place other : ℕ) → differ numbers ≡ true → place < length numbers
    → other < length numbers → place ≢ other → get_or numbers place 0 ≢ get_or numbers other 0
differ-at [] place other all within also apart = absurd (omega (arith, within))
differ-at (number ∷ numbers) zero zero all within also apart = absurd (apart refl)
differ-at (number ∷ numbers) zero (suc other) all within also apart =
    grind (arith, all-at (λ (n : ℕ). not (n == number)) numbers other 0)
differ-at (number ∷ numbers) (suc place) zero all within also apart =
    grind (arith, all-at (λ (n : ℕ). not (n == number)) numbers place 0)
differ-at (number ∷ numbers) (suc place) (suc other) all within also apart =
    grind (arith, differ-at numbers place other, λ (same : place ≡ other). apart (ap suc same))
