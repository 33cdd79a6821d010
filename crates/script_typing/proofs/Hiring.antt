-- Workers that are hired for tasks, run, and rested.
use Rattle.std.proofs.Common.{◌≡◌, ◌∙◌, ap, sym, subst, refl, arith, rules, ℕ, suc, ◌+◌, ◌<◌, ◌&&◌, Bool, true, false}
use Rattle.std.proofs.Common.{Result, Ok, Err}
use Rattle.std.proofs.Common.{OnOk, IfOk, IsErr, append_assoc}
use Rattle.std.proofs.Common.{List, [], ◌∷◌, ◌++◌, length, map, slice_index_or}
use Rattle.std.proofs.lemmas.Bool.{and_parts}
use Rattle.std.proofs.lemmas.List.{length-append, map-append}
use Rattle.std.proofs.lemmas.List.Folds.{list_all-append}
use Rattle.std.specs.BTreeMap.{insert_entry}
use Rattle.std.specs.List.{list_all}
use Rattle.std.specs.Ordering.{nat_cmp}
use Rattle.romaji_rules.specs.declared.rule.Rule.{Rule}
use Rattle.skk_calls.specs.declared.caller.Caller.{Ghosts as CallerGhosts}
use Rattle.skk_calls.specs.declared.caller.Kept.{Ghosts as KeptGhosts}
use Rattle.skk_calls.specs.InteractionLaws.{asked-none}
use Rattle.skk_calls.specs.Interactions.{Dialog, ends, asked, answers_of, calls_of, Leads}
use Rattle.skk_text.specs.declared.memory.Memory.{Memory}
use Rattle.key_scripts.specs.declared.line.Line.{Line}
use Rattle.session_machine.specs.Session.{Session, new_session}
use Rattle.script_typing.specs.declared.typed.Typed.{Typed}
use Rattle.script_typing.specs.declared.worker.Worker.{Worker}
use Rattle.script_typing.specs.MapLaws.{Ascend, AreAbove, AreBelow, put-last}
use Rattle.script_typing.specs.Sessions.{SessionMap}
use Rattle.script_typing.specs.Woven.{Tasks, own_typing, task_typing}
use Rattle.script_typing.specs.Callers.{CountFrom, HaveAsked}
use Rattle.script_typing.specs.Workers.{own_pages, IsNew, HasRun, AreHired, AreRested, IsDone, AreDone, is_whole}
use Rattle.script_typing.specs.Workers.{AddsTo, IsLeftOf}

-- each of these and the one at its place
abbrev pub Pairwise : {A : Type 0} → (A → A → Type 0) → List A → List A → Type 0
Pairwise R [] [] = Unit {0}
Pairwise R (x ∷ xs) (y ∷ ys) = R x y × Pairwise R xs ys
Pairwise R xs ys = ⊥

module _ {C : Type 0} (callers : CallerGhosts C) where
  -- one worker more for one task more
  pub hired-more : (first : ℕ) (tasks : Tasks) (workers : List (Worker C)) (task : ℕ × List Line) (worker : Worker C)
      → AreHired callers first tasks workers → length workers ≡ length tasks
      → IsNew task.0 task.1 worker → callers.number worker.caller ≡ first + length workers
      → callers.said worker.caller ≡ []
      → AreHired callers first (tasks ++ task ∷ []) (workers ++ worker ∷ [])
  hired-more first [] [] task worker hired same new number said = (new, omega (arith, number), said, tt)
  hired-more first [] (one ∷ others) task worker hired same new number said = absurd (omega (arith, same))
  hired-more first (task' ∷ tasks) [] task worker hired same new number said = absurd (omega (arith, same))
  hired-more first (task' ∷ tasks) (one ∷ others) task worker hired same new number said = (
    hired.0,
    hired.1,
    hired.2,
    hired-more (first + 1) tasks others task worker hired.3 (omega (arith, same)) new (omega (arith, number)) said,
  )

  -- workers that are hired for the first of tasks are so for all
  pub hired-front : (first : ℕ) (tasks more : Tasks) (workers : List (Worker C))
      → AreHired callers first tasks workers → AreHired callers first (tasks ++ more) workers
  hired-front first tasks more [] hired = tt
  hired-front first [] more (one ∷ others) hired = absurd hired
  hired-front first (task ∷ tasks) more (one ∷ others) hired =
      (hired.0, hired.1, hired.2, hired-front (first + 1) tasks more others hired.3)

  -- new workers have asked nothing
  pub hired-asked : {S : Type 0} (kept : KeptGhosts S) (table : List Rule) (first : ℕ)
      (tasks : Tasks) (workers : List (Worker C)) (slips : List S)
      → AreHired callers first tasks workers
      → AreRested callers kept workers slips
      → CountFrom first (map kept.number slips) × HaveAsked table tasks (map kept.said slips)
  hired-asked kept table first tasks [] [] hired rested = (tt, tt)
  hired-asked kept table first tasks [] (slip ∷ slips) hired rested = absurd rested
  hired-asked kept table first tasks (one ∷ others) [] hired rested = absurd rested
  hired-asked kept table first [] (one ∷ others) (slip ∷ slips) hired rested = absurd hired
  hired-asked kept table first (task ∷ tasks) (one ∷ others) (slip ∷ slips) hired rested =
      let rest = hired-asked kept table (first + 1) tasks others slips hired.3 rested.2 in
      let silent : kept.said slip ≡ [] = rested.1 ∙ hired.2 in (
        (rested.0 ∙ hired.1, rest.0),
        (
          subst (λ (d : Dialog). asked (task_typing table task) (answers_of d) ≡ calls_of d) (sym silent)
              (asked-none (task_typing table task)),
          rest.1,
        ),
      )

  -- what a worker that has run for a task has asked
  ran-asked : (table : List Rule) (task : ℕ × List Line) (before after : Worker C) → IsNew task.0 task.1 before
      → callers.said before.caller ≡ [] → HasRun callers table before after
      → asked (task_typing table task) (answers_of (callers.said after.caller)) ≡ calls_of (callers.said after.caller)
  ran-asked table task before after new silent ran =
      let said : callers.said after.caller ≡ ran.leaves.dialog =
      ran.leaves.grows ∙ ap (λ s. s ++ ran.leaves.dialog) silent in
      subst (λ (d : Dialog). asked (task_typing table task) (answers_of d) ≡ calls_of d) (sym said)
      (subst (λ (s : Session). asked (own_typing table s task.1) (answers_of ran.leaves.dialog)
      ≡ calls_of ran.leaves.dialog) new.2
      (subst (λ (ls : List Line). asked (own_typing table before.session ls) (answers_of ran.leaves.dialog)
      ≡ calls_of ran.leaves.dialog) new.1 ran.leaves.asks))

  -- what holds where a result is no want of memory, where it is none
  held : (ended : Result (Unit {0}) Memory) (P : Type 0) → is_whole ended ≡ true → OnOk ended P → P
  held (Ok done) P whole holds = holds
  held (Err memory) P whole holds = absurd (cc whole)

  -- what is left of a task whose worker has run
  ran-done : (table : List Rule) (whole : Bool) (task : ℕ × List Line) (before after : Worker C)
      → IsNew task.0 task.1 before → callers.said before.caller ≡ []
      → HasRun callers table before after → (whole ≡ true → is_whole after.ended ≡ true)
      → IsDone table task (callers.said after.caller) after.pages after.session whole
  ran-done table whole task before after new silent ran all = record {
    rest = ran.leaves.rest;
    asks = ran-asked table task before after new silent ran;
    printed =
        ap (λ d. own_pages table task.0 (new_session task.0 task.0) task.1 (answers_of d)) said
        ∙ ap (λ n. own_pages table n (new_session task.0 task.0) task.1 (answers_of ran.leaves.dialog)) (sym new.0)
        ∙ ap (λ (s : Session). own_pages table before.number s task.1 (answers_of ran.leaves.dialog)) (sym new.2)
        ∙ ap (λ (ls : List Line). own_pages table before.number before.session ls (answers_of ran.leaves.dialog))
        (sym new.1)
        ∙ ran.leaves.printed
        ∙ ap (λ ps. ps ++ ran.leaves.rest) (sym (ran.leaves.paged ∙ ap (λ ps. ps ++ ran.leaves.new) new.3));
    all = λ w. held after.ended (ran.leaves.rest ≡ []) (all w) ran.leaves.whole;
    leads = λ w.
        subst (λ (d : Dialog). Leads (task_typing table task) d [] (ends after.session)) (sym said)
        (subst (λ (s : Session). Leads (own_typing table s task.1) ran.leaves.dialog [] (ends after.session)) new.2
        (subst (λ (ls : List Line). Leads (own_typing table before.session ls) ran.leaves.dialog []
        (ends after.session)) new.1
        (held after.ended (Leads (own_typing table before.session before.lines) ran.leaves.dialog []
        (ends after.session)) (all w) ran.leaves.leads)));
  }
    where
      said : callers.said after.caller ≡ ran.leaves.dialog
      said = ran.leaves.grows ∙ ap (λ s. s ++ ran.leaves.dialog) silent

  -- what all workers that have run have asked
  pub all-asked : {S : Type 0} (kept : KeptGhosts S) (table : List Rule) (first : ℕ)
      (tasks : Tasks) (before after : List (Worker C)) (slips : List S)
      → AreHired callers first tasks before → Pairwise (HasRun callers table) before after
      → AreRested callers kept after slips
      → CountFrom first (map kept.number slips) × HaveAsked table tasks (map kept.said slips)
  all-asked kept table first tasks [] [] [] hired ran rested = (tt, tt)
  all-asked kept table first tasks [] [] (slip ∷ slips) hired ran rested = absurd rested
  all-asked kept table first tasks [] (one ∷ after) slips hired ran rested = absurd ran
  all-asked kept table first tasks (one ∷ before) [] slips hired ran rested = absurd ran
  all-asked kept table first tasks (one ∷ before) (now ∷ after) [] hired ran rested = absurd rested
  all-asked kept table first [] (one ∷ before) (now ∷ after) (slip ∷ slips) hired ran rested =
      absurd hired
  all-asked kept table first (task ∷ tasks) (one ∷ before) (now ∷ after) (slip ∷ slips) hired ran
      rested =
      let rest =
      all-asked kept table (first + 1) tasks before after slips hired.3 ran.1 rested.2 in (
        (rested.0 ∙ ran.0.stays.1 ∙ hired.1, rest.0),
        (
          subst (λ (d : Dialog). asked (task_typing table task) (answers_of d) ≡ calls_of d) (sym rested.1)
              (ran-asked table task one now hired.0 hired.2 ran.0),
          rest.1,
        ),
      )

  -- what is left of all tasks, where each has a worker that has run
  pub all-done : {S : Type 0} (kept : KeptGhosts S) (table : List Rule) (whole : Bool)
      (first : ℕ) (tasks : Tasks) (before after : List (Worker C)) (slips : List S)
      → AreHired callers first tasks before → length before ≡ length tasks
      → Pairwise (HasRun callers table) before after
      → AreRested callers kept after slips
      → (whole ≡ true → list_all (λ (w : Worker C). is_whole w.ended) after ≡ true)
      → AreDone table whole tasks (map kept.said slips) (map (λ (w : Worker C). (w.number, w.pages)) after)
      (map (λ (w : Worker C). (w.number, w.session)) after)
  all-done kept table whole first [] [] [] [] hired same ran rested all = tt
  all-done kept table whole first (task ∷ tasks) [] after slips hired same ran rested all =
      absurd (omega (arith, same))
  all-done kept table whole first [] (one ∷ before) after slips hired same ran rested all =
      absurd hired
  all-done kept table whole first tasks [] (now ∷ after) slips hired same ran rested all = absurd ran
  all-done kept table whole first tasks (one ∷ before) [] slips hired same ran rested all = absurd ran
  all-done kept table whole first [] [] [] (slip ∷ slips) hired same ran rested all = absurd rested
  all-done kept table whole first tasks (one ∷ before) (now ∷ after) [] hired same ran rested all =
      absurd rested
  all-done kept table whole first (task ∷ tasks) (one ∷ before) (now ∷ after) (slip ∷ slips) hired
      same ran rested all = (
        ran.0.stays.0 ∙ hired.0.0,
        ran.0.stays.0 ∙ hired.0.0,
        subst (λ (d : Dialog). IsDone table task d now.pages now.session whole) (sym rested.1)
            (ran-done table whole task one now hired.0 hired.2 ran.0 (λ w.
            (and_parts (is_whole now.ended) (list_all (λ (x : Worker C). is_whole x.ended) after) (all w)).0)),
        all-done kept table whole (first + 1) tasks before after slips hired.3 (omega (arith, same))
            ran.1 rested.2 (λ w.
            (and_parts (is_whole now.ended) (list_all (λ (x : Worker C). is_whole x.ended) after) (all w)).1),
      )

  -- by what the workers left
  pub all-done-left : {S : Type 0} (kept : KeptGhosts S) (table : List Rule) (first : ℕ)
      (tasks : Tasks) (before after : List (Worker C)) (slips : List S) (typed : Result Typed Memory)
      → AreHired callers first tasks before → length before ≡ length tasks
      → Pairwise (HasRun callers table) before after
      → AreRested callers kept after slips → IfOk typed (IsLeftOf after)
      → IfOk typed (λ t. AreDone table t.whole tasks (map kept.said slips) t.pages.entries t.sessions.entries)
  all-done-left kept table first tasks before after slips (Err memory) hired same ran rested left =
      search rules
  all-done-left kept table first tasks before after slips (Ok typed) hired same ran rested left =
      subst (λ es. AreDone table typed.whole tasks (map kept.said slips) es typed.sessions.entries) (sym left.pages)
      (subst (λ (es : SessionMap). AreDone table typed.whole tasks (map kept.said slips)
      (map (λ (w : Worker C). (w.number, w.pages)) after) es) (sym left.sessions)
      (all-done kept table typed.whole first tasks before after slips hired same ran rested
      (λ whole. sym left.whole ∙ whole)))

  -- the numbers of workers that have run ascend as those of their tasks do
  above-ran : (table : List Rule) (low first : ℕ) (tasks : Tasks) (before after : List (Worker C))
      → AreHired callers first tasks before → Pairwise (HasRun callers table) before after
      → AreAbove low tasks → AreAbove low (map (λ (w : Worker C). (w.number, w.session)) after)
  above-ran table low first tasks [] [] hired ran above = tt
  above-ran table low first tasks [] (now ∷ after) hired ran above = absurd ran
  above-ran table low first tasks (one ∷ before) [] hired ran above = absurd ran
  above-ran table low first [] (one ∷ before) (now ∷ after) hired ran above = absurd hired
  above-ran table low first (task ∷ tasks) (one ∷ before) (now ∷ after) hired ran above = (
    subst (λ n. low < n) (sym (ran.0.stays.0 ∙ hired.0.0)) above.0,
    above-ran table low (first + 1) tasks before after hired.3 ran.1 above.1,
  )

  pub ascend-ran : (table : List Rule) (first : ℕ) (tasks : Tasks) (before after : List (Worker C))
      → AreHired callers first tasks before → Pairwise (HasRun callers table) before after
      → Ascend tasks → Ascend (map (λ (w : Worker C). (w.number, w.session)) after)
  ascend-ran table first tasks [] [] hired ran ascend = tt
  ascend-ran table first tasks [] (now ∷ after) hired ran ascend = absurd ran
  ascend-ran table first tasks (one ∷ before) [] hired ran ascend = absurd ran
  ascend-ran table first [] (one ∷ before) (now ∷ after) hired ran ascend = absurd hired
  ascend-ran table first (task ∷ tasks) (one ∷ before) (now ∷ after) hired ran ascend = (
    subst (λ n. AreAbove n (map (λ (w : Worker C). (w.number, w.session)) after))
        (sym (ran.0.stays.0 ∙ hired.0.0))
        (above-ran table task.0 (first + 1) tasks before after hired.3 ran.1 ascend.0),
    ascend-ran table (first + 1) tasks before after hired.3 ran.1 ascend.1,
  )

  -- the numbers of new workers ascend as those of their tasks do
  above-hired : (low first : ℕ) (tasks : Tasks) (workers : List (Worker C))
      → AreHired callers first tasks workers → AreAbove low tasks
      → AreAbove low (map (λ (w : Worker C). (w.number, w.session)) workers)
  above-hired low first tasks [] hired above = tt
  above-hired low first [] (one ∷ others) hired above = absurd hired
  above-hired low first (task ∷ tasks) (one ∷ others) hired above = (
    subst (λ n. low < n) (sym hired.0.0) above.0,
    above-hired low (first + 1) tasks others hired.3 above.1,
  )

  pub ascend-hired : (first : ℕ) (tasks : Tasks) (workers : List (Worker C))
      → AreHired callers first tasks workers → Ascend tasks
      → Ascend (map (λ (w : Worker C). (w.number, w.session)) workers)
  ascend-hired first tasks [] hired ascend = tt
  ascend-hired first [] (one ∷ others) hired ascend = absurd hired
  ascend-hired first (task ∷ tasks) (one ∷ others) hired ascend = (
    subst (λ n. AreAbove n (map (λ (w : Worker C). (w.number, w.session)) others)) (sym hired.0.0)
        (above-hired task.0 (first + 1) tasks others hired.3 ascend.0),
    ascend-hired (first + 1) tasks others hired.3 ascend.1,
  )

  -- workers were hired for the first of some tasks, the others are left, and so many numbers were drawn by now
  pub record IsHiring (first drawn : ℕ) (tasks left : Tasks) (workers : List (Worker C)) : Type 0 where
    pub begun : Tasks
    pub parts : tasks ≡ begun ++ left
    pub hired : AreHired callers first begun workers
    pub same : length workers ≡ length begun
    pub counted : drawn ≡ first + length workers

  pub hiring-start : (first : ℕ) (tasks : Tasks) (workers : List (Worker C)) → workers ≡ []
      → IsHiring first first tasks tasks workers
  hiring-start first tasks workers none = record {
    begun = [];
    parts = refl;
    hired = subst (AreHired callers first []) (sym none) tt;
    same = ap length none;
    counted = omega (arith, ap length none);
  }

  pub hiring-more : (first drawn drawn' : ℕ) (tasks left : Tasks) (number : ℕ) (lines : List Line)
      (workers : List (Worker C)) (worker : Worker C) → IsHiring first drawn tasks ((number, lines) ∷ left) workers
      → IsNew number lines worker → callers.number worker.caller ≡ drawn → callers.said worker.caller ≡ []
      → drawn' ≡ drawn + 1 → IsHiring first drawn' tasks left (workers ++ worker ∷ [])
  hiring-more first drawn drawn' tasks left number lines workers worker hiring new numbered silent more = record {
    begun = hiring.begun ++ (number, lines) ∷ [];
    parts = hiring.parts ∙ sym (append_assoc hiring.begun ((number, lines) ∷ []) left);
    hired =
        hired-more first hiring.begun workers (number, lines) worker hiring.hired hiring.same new
        (numbered ∙ hiring.counted) silent;
    same = omega (
      arith,
      hiring.same,
      length-append workers (worker ∷ []),
      length-append hiring.begun ((number, lines) ∷ []),
    );
    counted = omega (arith, more, hiring.counted, length-append workers (worker ∷ []));
  }

  pub hiring-front : (first drawn : ℕ) (tasks left : Tasks) (workers : List (Worker C))
      → IsHiring first drawn tasks left workers → AreHired callers first tasks workers
  hiring-front first drawn tasks left workers hiring =
      subst (λ (ts : Tasks). AreHired callers first ts workers) (sym hiring.parts)
      (hired-front first hiring.begun left workers hiring.hired)

  pub hiring-few : (first drawn : ℕ) (tasks left : Tasks) (workers : List (Worker C))
      → IsHiring first drawn tasks left workers → length workers + length left ≡ length tasks
  hiring-few first drawn tasks left workers hiring =
      omega (arith, hiring.same, ap length hiring.parts, length-append hiring.begun left)

  -- each of workers that have run is the one at its place
  pub pairwise-at : (R : Worker C → Worker C → Type 0) (before after : List (Worker C)) → length after ≡ length before
      → ((i : ℕ) (d : Worker C) → i < length before → R (slice_index_or before i d) (slice_index_or after i d))
      → Pairwise R before after
  pairwise-at R [] [] same each = tt
  pairwise-at R [] (now ∷ after) same each = absurd (omega (arith, same))
  pairwise-at R (one ∷ before) [] same each = absurd (omega (arith, same))
  pairwise-at R (one ∷ before) (now ∷ after) same each = (
    each 0 one (omega arith),
    pairwise-at R before after (omega (arith, same)) (λ i d less. each (suc i) d (omega (arith, less))),
  )

  -- one worker more that is rested
  pub rested-more : {S : Type 0} (kept : KeptGhosts S) (workers : List (Worker C))
      (slips : List S) (worker : Worker C) (slip : S)
      → AreRested callers kept workers slips
      → kept.number slip ≡ callers.number worker.caller → kept.said slip ≡ callers.said worker.caller
      → AreRested callers kept (workers ++ worker ∷ []) (slips ++ slip ∷ [])
  rested-more kept [] [] worker slip rested numbered said = (numbered, said, tt)
  rested-more kept [] (one ∷ slips) worker slip rested numbered said = absurd rested
  rested-more kept (one ∷ workers) [] worker slip rested numbered said = absurd rested
  rested-more kept (one ∷ workers) (first ∷ slips) worker slip rested numbered said =
      (rested.0, rested.1, rested-more kept workers slips worker slip rested.2 numbered said)

  pub rested-length : {S : Type 0} (kept : KeptGhosts S) (workers : List (Worker C))
      (slips : List S) → AreRested callers kept workers slips
      → length slips ≡ length workers
  rested-length kept [] [] rested = refl
  rested-length kept [] (one ∷ slips) rested = absurd rested
  rested-length kept (one ∷ workers) [] rested = absurd rested
  rested-length kept (one ∷ workers) (first ∷ slips) rested =
      omega (arith, rested-length kept workers slips rested.2)

-- What workers leave

and-true : (b : Bool) → (b && true) ≡ b
and-true true = refl
and-true false = refl

module _ {C : Type 0} where
  above-there : (low : ℕ) (front : List (Worker C)) (worker : Worker C) (rest : List (Worker C))
      → AreAbove low (map (λ (w : Worker C). (w.number, w.session)) (front ++ worker ∷ rest)) → low < worker.number
  above-there low [] worker rest above = above.0
  above-there low (one ∷ front) worker rest above = above-there low front worker rest above.1

  -- the numbers in front of a worker are less
  below-front : {B : Type 0} (value : Worker C → B) (front : List (Worker C)) (worker : Worker C)
      (rest : List (Worker C)) → Ascend (map (λ (w : Worker C). (w.number, w.session)) (front ++ worker ∷ rest))
      → AreBelow worker.number (map (λ (w : Worker C). (w.number, value w)) front)
  below-front value [] worker rest ascend = tt
  below-front value (one ∷ front) worker rest ascend = (
    above-there one.number front worker rest ascend.0,
    below-front value front worker rest ascend.1,
  )

  -- one worker more leaves its pages and its session behind those of the others
  pub left-more : (front : List (Worker C)) (worker : Worker C) (rest : List (Worker C)) (before after : Typed)
      → IsLeftOf front before → AddsTo worker before after
      → Ascend (map (λ (w : Worker C). (w.number, w.session)) (front ++ worker ∷ rest))
      → IsLeftOf (front ++ worker ∷ []) after
  left-more front worker rest before after left adds ascend = record {
    pages = adds.pages ∙ ap (λ es. insert_entry nat_cmp es worker.number worker.pages) left.pages
        ∙ put-last (map (λ (w : Worker C). (w.number, w.pages)) front) worker.number worker.pages
        (below-front (λ w. w.pages) front worker rest ascend)
        ∙ sym (map-append (λ (w : Worker C). (w.number, w.pages)) front (worker ∷ []));
    sessions = adds.sessions ∙ ap (λ es. insert_entry nat_cmp es worker.number worker.session) left.sessions
        ∙ put-last (map (λ (w : Worker C). (w.number, w.session)) front) worker.number worker.session
        (below-front (λ w. w.session) front worker rest ascend)
        ∙ sym (map-append (λ (w : Worker C). (w.number, w.session)) front (worker ∷ []));
    whole = adds.whole ∙ ap (λ b. b && is_whole worker.ended) left.whole
        ∙ ap (λ b. list_all (λ (w : Worker C). is_whole w.ended) front && b) (sym (and-true (is_whole worker.ended)))
        ∙ sym (list_all-append (λ (w : Worker C). is_whole w.ended) front (worker ∷ []));
  }

  pub left-next : (front : List (Worker C)) (worker : Worker C) (rest : List (Worker C))
      (typed result : Result Typed Memory)
      → IfOk typed (IsLeftOf front) → IfOk result (λ after. IfOk typed (λ before. AddsTo worker before after))
      → (IsErr typed → IsErr result)
      → Ascend (map (λ (w : Worker C). (w.number, w.session)) (front ++ worker ∷ rest))
      → IfOk result (IsLeftOf (front ++ worker ∷ []))
  left-next front worker rest (Ok before) (Ok after) left adds lost ascend =
      left-more front worker rest before after left adds ascend
  left-next front worker rest (Err memory) (Ok after) left adds lost ascend = absurd (search (rules, lost))
  left-next front worker rest typed (Err memory) left adds lost ascend = search rules

  pub left-none : (typed : Typed) → typed.pages.entries ≡ [] → typed.sessions.entries ≡ [] → typed.whole ≡ true
      → IsLeftOf {C = C} [] typed
  left-none typed pages sessions whole = record { pages = pages; sessions = sessions; whole = whole }
