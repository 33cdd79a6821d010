-- The candidate state ▼: what a key does to the candidates that are shown.
use Rattle.std.specs.Prelude.{ℕ, ◌+◌, ◌-◌, ◌%◌, Bool, true, false, ◌&&◌, ◌||◌, ◌==◌, not, nat_lt, if◌then◌else◌, Option}
use Rattle.std.specs.Prelude.{None, Some, List, length}
use Rattle.skk_text.specs.Characters.{code}
use Rattle.skk_text.specs.declared.key.Key.{Key}
use Rattle.skk_text.specs.declared.key.Key.TheVariants.{Char, Cj, Cg, Bs, Ret, Tab, Undo}
use Rattle.skk_text.specs.declared.notice.Notice.TheVariants as notices
use Rattle.skk_calls.specs.Rows.{Cand}
use Rattle.candidate_state.specs.Shown.{Shown, with_cand}
use Rattle.candidate_state.specs.declared.cands_do.AfterChoose.{AfterChoose}
use Rattle.candidate_state.specs.declared.cands_do.AfterChoose.TheVariants.{Nothing, Delete, Newline, OpenSuffix, Read}
use Rattle.candidate_state.specs.declared.cands_do.CandsDo.{CandsDo}
use Rattle.candidate_state.specs.declared.cands_do.CandsDo.TheVariants.{Stay, Back, Register, Purge, Choose}

-- candidates of which one is picked: those that are shown, the place of the one that is shown singly or of the first of
-- a page, and whether it is asked if that one is to be purged
pub record Picking : Type 0 where
  pub shown : List Shown
  pub place : ℕ
  pub question : Bool

-- how many candidates are shown singly, before the pages
abbrev pub singles : ℕ
singles = 4

-- how many candidates a page shows
abbrev pub page_size : ℕ
page_size = 7

-- whether the candidate of a place is shown singly
abbrev pub is_single : ℕ → Bool
is_single place = nat_lt place singles

-- whether a place is one that candidates are shown from: that of a single one, or the first of a page
abbrev pub begins_view : ℕ → Bool
begins_view place = is_single place || (place - singles) % page_size == 0

-- a picking is one that may be: its place is among the candidates and begins a view,
-- and only a single one may be purged
abbrev pub is_picking : Picking → Bool
is_picking picking =
    nat_lt picking.place (length picking.shown)
    && (begins_view picking.place && (not picking.question || is_single picking.place))

-- the first candidate is picked, of those that are shown
abbrev pub new_picking : List Shown → Picking
new_picking shown = record { shown = shown; place = 0; question = false }

-- a picking whose picked candidate, the single one or the first of the page, has another of its word in its place
abbrev pub annotated : Picking → Cand → Picking
annotated picking cand = record picking { shown = with_cand picking.shown picking.place cand }

-- a key's step: the picking after it, and what is done
pub record PickingStep : Type 0 where
  pub picking : Picking
  pub done : CandsDo

-- the step that leaves the picking as it is, with what is done
abbrev pub step_with : Picking → CandsDo → PickingStep
step_with picking effect = record { picking = picking; done = effect }

-- the step to another place
abbrev pub step_to : Picking → ℕ → PickingStep
step_to picking place = step_with (record picking { place = place }) (Stay notices.Empty)

-- the step to a place that comes next: where no candidate is left there, a registration opens
abbrev pub next_step : Picking → ℕ → PickingStep
next_step picking place =
    if nat_lt place (length picking.shown) then step_to picking place else step_with picking Register

-- the step that chooses the candidate of a place, and does more then
abbrev pub choose_step : Picking → ℕ → AfterChoose → PickingStep
choose_step picking place after = step_with picking (Choose place after)

-- the step to the candidate before, or from the first one back to the reading
abbrev pub single_back : Picking → ℕ → PickingStep
single_back picking place = if place == 0 then step_with picking Back else step_to picking (place - 1)

-- the step of a character where a single candidate is shown
abbrev pub single_char_step : Picking → ℕ → PickingStep
single_char_step picking c =
    if c == code " " then next_step picking (picking.place + 1)
    else if c == code "x" then single_back picking picking.place
    else if c == code "X" then step_with (record picking { question = true }) (Stay notices.Empty)
    else if c == code ">" then choose_step picking picking.place OpenSuffix
    else choose_step picking picking.place (Read (Char c))

-- the step of a key where a single candidate is shown
abbrev pub single_step : Picking → Key → PickingStep
single_step picking (Char c) = single_char_step picking c
single_step picking Cj = choose_step picking picking.place Nothing
single_step picking Cg = step_with picking Back
single_step picking Bs = choose_step picking picking.place Delete
single_step picking Ret = choose_step picking picking.place Newline
single_step picking Tab = step_with picking (Stay notices.Empty)
single_step picking Undo = step_with picking (Stay notices.Empty)

-- the place on a page that a character names, counted from 0
abbrev pub place_named : ℕ → Option ℕ
place_named c =
    if c == code "a" then Some 0
    else if c == code "s" then Some 1
    else if c == code "d" then Some 2
    else if c == code "f" then Some 3
    else if c == code "j" then Some 4
    else if c == code "k" then Some 5
    else if c == code "l" then Some 6
    else None

-- the step back from a page: to the page before, or to the last single candidate
abbrev pub page_back : Picking → PickingStep
page_back picking = step_to picking (if picking.place == singles then singles - 1 else picking.place - page_size)

-- the step that chooses the candidate of a place, where there is one
abbrev pub choose_named : Picking → ℕ → PickingStep
choose_named picking place =
    if nat_lt place (length picking.shown) then choose_step picking place Nothing
    else step_with picking (Stay notices.NoCandidate)

-- the step of a character on a page that names a place there, or else goes on or back, or does nothing
abbrev pub page_char_step : Picking → ℕ → Option ℕ → PickingStep
page_char_step picking c (Some place) = choose_named picking (picking.place + place)
page_char_step picking c None =
    if c == code " " then next_step picking (picking.place + page_size)
    else if c == code "x" then page_back picking
    else step_with picking (Stay notices.Empty)

-- the step of a key on a page
abbrev pub page_step : Picking → Key → PickingStep
page_step picking (Char c) = page_char_step picking c (place_named c)
page_step picking Cg = step_with picking Back
page_step picking Bs = page_back picking
page_step picking key = step_with picking (Stay notices.Empty)

-- whether a key says yes to the question of a purge: `y` or `Y`
abbrev pub says_yes : Key → Bool
says_yes (Char c) = c == code "y" || c == code "Y"
says_yes key = false

-- the step of a key that answers the question of a purge, which it ends
abbrev pub question_step : Picking → Key → PickingStep
question_step picking key =
    step_with (record picking { question = false }) (if says_yes key then Purge else Stay notices.Empty)

-- the step of a key in the candidate state
abbrev pub picking_step : Picking → Key → PickingStep
picking_step picking key =
    if picking.question then question_step picking key
    else if is_single picking.place then single_step picking key
    else page_step picking key
