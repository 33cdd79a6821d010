-- What a caller has said where nothing was asked, and where one thing was asked behind another.
use Rattle.std.proofs.Common.{◌≡◌, ◌∙◌, sym, ap, refl, ℕ, slice_get, Result, Ok, Err, Some, List, [], ◌∷◌, true}
use Rattle.std.proofs.Common.{◌++◌, IfOk, OnOk, OnErr, IsErrAnd, append_assoc, rules, subst}
use Rattle.skk_text.specs.declared.memory.Memory.{Memory}
use Rattle.std.proofs.lemmas.List.{append-nil}
use Rattle.skk_calls.specs.declared.answer.Answer.{Answer}
use Rattle.skk_calls.specs.declared.call.Call.{Call}
use Rattle.skk_calls.specs.Interactions.{Interaction, Dialog, Comes, Begins, ends, asks, followed_by}
use Rattle.skk_calls.specs.InteractionLaws.{begins-followed, comes-behind, begins-behind}
use Rattle.std.specs.Option.{option_map_or}
use Rattle.skk_text.specs.declared.key.Key.{Key}
use Rattle.romaji_rules.specs.declared.rule.Rule.{Rule}
use Rattle.candidate_state.specs.declared.cands_do.AfterChoose.{AfterChoose}
use Rattle.candidate_state.specs.Shown.{Shown}
use Rattle.session_machine.specs.declared.frame.Conversion.{Conversion}
use Rattle.session_machine.specs.declared.frame.FrameState.TheVariants as states
use Rattle.session_machine.specs.Meanings.{Meaning, becomes}
use Rattle.session_machine.specs.Pressed.{of_candidate, pressed, all_pressed, choice_piece, choosing, learning}
use Rattle.session_machine.specs.Said.{Spoken, Says, Becomes, after}
use Rattle.session_machine.specs.Session.{Session, has_room, with_state}

-- what holds of a value that comes out
each_ok : {S : Type 0} {P Q : S → Type 0} (result : Result S Memory) → IfOk result P
    → ((end : S) → P end → Q end) → IfOk result Q
each_ok (Ok end) p q = q end p
each_ok (Err memory) p q = search rules

-- what holds where memory is out
where_out : {S P Q : Type 0} (result : Result S Memory) → OnErr result P → (P → Q) → OnErr result Q
where_out (Ok end) p q = search rules
where_out (Err memory) p q = q p

-- memory was out before anything was asked
pub says-memory : {S : Type 0} (interaction : Interaction S) (memory : Memory) (caller : Spoken)
    → Says interaction (Err memory) caller caller
says-memory interaction memory caller = record {
  dialog = [];
  number = refl;
  grows = sym (append-nil caller.said);
  ok = search rules;
  memory = tt;
}

-- the same of a result that tells it
pub says-none : {S : Type 0} (interaction : Interaction S) (result : Result S Memory) (caller : Spoken)
    (P : Memory → Type 0) → IsErrAnd result P → Says interaction result caller caller
says-none interaction (Ok end) caller P is = absurd (search (rules, is))
says-none interaction (Err memory) caller P is = says-memory interaction memory caller

-- the same of a result that a call below handed on
pub says-lacking : (meaning : Meaning) (result : Result (Unit {0}) Memory) (session : Session) (caller : Spoken)
    (P : Memory → Type 0) → IsErrAnd result P → Says meaning (after result session) caller caller
says-lacking meaning (Ok unit) session caller P is = absurd (search (rules, is))
says-lacking meaning (Err memory) session caller P is = says-memory meaning memory caller

-- an end is reached, and nothing was asked
pub says-end : {S : Type 0} (interaction : Interaction S) (end : S) (caller : Spoken) → interaction ≡ ends end
    → Says interaction (Ok end) caller caller
says-end interaction end caller is = record {
  dialog = [];
  number = refl;
  grows = sym (append-nil caller.said);
  ok = subst (λ i. Comes i [] end) (sym is) refl;
  memory = search rules;
}

-- what a call that asks nothing gives is what is said by nothing
pub says-becomes : (meaning : Meaning) (result : Result Session Memory) (caller : Spoken) → Becomes meaning result
    → Says meaning result caller caller
says-becomes meaning (Ok session) caller becomes = says-end meaning session caller becomes
says-becomes meaning (Err memory) caller becomes = says-memory meaning memory caller

-- an interaction goes on by a dialog as another: what comes of that comes of it
pub record Goes {S : Type 0} (from : Interaction S) (dialog : Dialog) (to : Interaction S) : Type 0 where
  pub comes : (rest : Dialog) (end : S) → Comes to rest end → Comes from (dialog ++ rest) end
  pub begins : (rest : Dialog) → Begins to rest → Begins from (dialog ++ rest)

-- nothing was asked yet
pub goes-here : {S : Type 0} (interaction : Interaction S) → Goes interaction [] interaction
goes-here interaction = record { comes = λ rest end comes. comes; begins = λ rest begins. begins }

-- two dialogs, one behind the other
pub goes-on : {S : Type 0} (from middle to : Interaction S) (dialog more : Dialog) → Goes from dialog middle
    → Goes middle more to → Goes from (dialog ++ more) to
goes-on from middle to dialog more first second = record {
  comes =
      λ rest end comes. subst (λ d. Comes from d end) (sym (append_assoc dialog more rest))
      (first.comes (more ++ rest) end (second.comes rest end comes));
  begins =
      λ rest begins. subst (λ d. Begins from d) (sym (append_assoc dialog more rest))
      (first.begins (more ++ rest) (second.begins rest begins));
}

-- what an interaction comes to goes on as what follows behind it
pub goes-followed : {S T : Type 0} (interaction : Interaction S) (dialog : Dialog) (end : S)
    (behind : S → Interaction T)
    → Comes interaction dialog end → Goes (followed_by interaction behind) dialog (behind end)
goes-followed interaction dialog end behind comes = record {
  comes = λ rest last more. comes-behind interaction dialog end behind comes rest last more;
  begins = λ rest more. begins-behind interaction dialog end behind comes rest more;
}

-- a call was made with its answer, and it goes on by that
pub goes-asked : {S : Type 0} (call called : Call) (next : Answer → Interaction S) (answer : Answer) → called ≡ call
    → Goes (asks call next) ((called, answer) ∷ []) (next answer)
goes-asked call called next answer is = record {
  comes = λ rest end comes. (sym is, comes);
  begins = λ rest begins. (sym is, begins);
}

-- what was said behind a dialog is said with it
pub says-on : {S : Type 0} (from to : Interaction S) (dialog : Dialog) (result : Result S Memory)
    (start middle last : Spoken)
    → Goes from dialog to → middle.number ≡ start.number → middle.said ≡ start.said ++ dialog
    → Says to result middle last → Says from result start last
says-on from to dialog result start middle last goes number grows says = record {
  dialog = dialog ++ says.dialog;
  number = says.number ∙ number;
  grows = says.grows ∙ ap (λ d. d ++ says.dialog) grows ∙ append_assoc start.said dialog says.dialog;
  ok = each_ok result says.ok (λ end comes. goes.comes says.dialog end comes);
  memory = where_out result says.memory (λ begins. goes.begins says.dialog begins);
}

-- a call was made with its answer, and what is said behind it is what the answer comes to
pub says-asked : {S : Type 0} (call called : Call) (next : Answer → Interaction S) (answer : Answer)
    (result : Result S Memory) (start middle last : Spoken) → called ≡ call
    → middle.number ≡ start.number → middle.said ≡ start.said ++ (called, answer) ∷ []
    → Says (next answer) result middle last → Says (asks call next) result start last
says-asked call called next answer result start middle last is number grows says =
    says-on (asks call next) (next answer) ((called, answer) ∷ []) result start middle last
    (goes-asked call called next answer is) number grows says

-- what is said for a candidate is what is said of its place
pub says-candidate : (session : Session) (conversion : Conversion) (place : ℕ) (meaning : Shown → Meaning)
    (shown : Shown) (result : Result Session Memory) (before after : Spoken)
    → slice_get conversion.picking.shown place ≡ Some shown → Says (meaning shown) result before after
    → Says (of_candidate session conversion place meaning) result before after
says-candidate session conversion place meaning shown result before after found says =
    subst (λ o. Says (option_map_or meaning o (becomes (with_state session (states.Picking conversion)))) result
    before after) (sym found) says

-- what is said where a candidate's piece fits is what is said of its choice
pub says-choosing : (rules : List Rule) (session : Session) (conversion : Conversion) (place : ℕ)
    (behind : AfterChoose) (shown : Shown) (piece : List ℕ) (result : Result Session Memory) (before after : Spoken)
    → slice_get conversion.picking.shown place ≡ Some shown
    → piece ≡ choice_piece session.frame.mode conversion.reading shown → has_room session piece ≡ true
    → Says (of_candidate session conversion place (learning rules session conversion piece behind)) result before after
    → Says (of_candidate session conversion place (choosing rules session conversion behind)) result before after
says-choosing rules session conversion place behind shown piece result before after found is room says =
    says-candidate session conversion place (choosing rules session conversion behind) shown result before after found
    (subst (λ meaning. Says meaning result before after) (sym fits) learnt)
  where
    learnt : Says (learning rules session conversion piece behind shown) result before after
    learnt =
        subst (λ o. Says (option_map_or (learning rules session conversion piece behind) o
        (becomes (with_state session (states.Picking conversion)))) result before after) found says

    fits : choosing rules session conversion behind shown ≡ learning rules session conversion piece behind shown
    fits = rw (sym is, room) refl

-- a session is what a call leaves of it where it stands, unless memory is out
pub says-put : (session : Session) (result : Result (Unit {0}) Memory) (left : Session) (caller : Spoken)
    → OnOk result (left ≡ session) → Says (becomes session) (after result left) caller caller
says-put session (Ok unit) left caller is = says-end (becomes session) left caller (ap becomes (sym is))
says-put session (Err memory) left caller is = says-memory (becomes session) memory caller

-- what follows an interaction that came to its end is said behind it
pub says-behind : {S T : Type 0} (interaction : Interaction S) (behind : S → Interaction T) (end : S)
    (asked : Result S Memory) (result : Result T Memory) (start middle last : Spoken)
    → Says interaction asked start middle → asked ≡ Ok end → Says (behind end) result middle last
    → Says (followed_by interaction behind) result start last
says-behind {S} interaction behind end asked result start middle last told is says =
    let came : Comes interaction told.dialog end =
    subst (λ (r : Result S Memory). IfOk r (λ e. Comes interaction told.dialog e)) is told.ok in
    says-on (followed_by interaction behind) (behind end) told.dialog result start middle last
    (goes-followed interaction told.dialog end behind came) told.number told.grows says

-- and where memory was out within it nothing follows
pub says-out : {S T : Type 0} (interaction : Interaction S) (behind : S → Interaction T) (asked : Result S Memory)
    (memory other : Memory) (start last : Spoken)
    → Says interaction asked start last → asked ≡ Err memory
    → Says (followed_by interaction behind) (Err other) start last
says-out {S} interaction behind asked memory other start last told is =
    let begins : Begins interaction told.dialog =
    subst (λ (r : Result S Memory). OnErr r (Begins interaction told.dialog)) is told.memory in record {
      dialog = told.dialog;
      number = told.number;
      grows = told.grows;
      ok = search rules;
      memory = begins-followed interaction told.dialog behind begins;
    }

-- the same of a call that changes a session where it stands
pub says-stopped : {S : Type 0} (interaction : Interaction S) (behind : S → Meaning) (asked : Result S Memory)
    (memory : Memory) (result : Result (Unit {0}) Memory) (session : Session) (start last : Spoken)
    (P : Memory → Type 0) → Says interaction asked start last → asked ≡ Err memory → IsErrAnd result P
    → Says (followed_by interaction behind) (after result session) start last
says-stopped interaction behind asked memory (Ok unit) session start last P told is lacks =
    absurd (search (rules, lacks))
says-stopped interaction behind asked memory (Err other) session start last P told is lacks =
    says-out interaction behind asked memory other start last told is

-- the first of several keys goes on as those behind it
pub goes-first : (rules : List Rule) (session : Session) (key : Key) (keys : List Key) (next : Session)
    (dialog : Dialog)
    → Comes (pressed rules session key) dialog next
    → Goes (all_pressed rules session (key ∷ keys)) dialog (all_pressed rules next keys)
goes-first rules session key keys next dialog comes =
    goes-followed (pressed rules session key) dialog next (λ after. all_pressed rules after keys) comes

pub ruleset says = (says-memory, says-lacking, says-end, says-becomes)
