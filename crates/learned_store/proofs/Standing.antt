-- What stands over a disk stands with one call more.
use Rattle.std.proofs.Common.{◌≡◌, ◌⊎◌, inl, inr, refl, sym, ◌∙◌, ap, subst, arith}
use Rattle.std.proofs.Common.{ℕ, true, false, if◌then◌else◌, Option, None, Some, List, [], ◌∷◌, ◌++◌}
use Rattle.std.proofs.Common.{map, Contains}
use Rattle.std.proofs.lemmas.Bool.{cases_Bool}
use Rattle.std.proofs.lemmas.List.{map-append}
use Rattle.std.proofs.lemmas.List.Elements.{Contains-append_left, Contains-append_right, Contains-append_cases}
use Rattle.std.proofs.lemmas.List.Elements.{Contains-push, Contains-push_cases}
use Rattle.skk_calls.specs.declared.answer.Answer.{Answer}
use Rattle.skk_calls.specs.declared.answer.Answer.TheVariants.{Done, Refused}
use Rattle.skk_calls.specs.declared.answer.Refusal.TheVariants.{Memory, Disk, JournalFull}
use Rattle.skk_calls.specs.declared.call.Call.{Call}
use Rattle.skk_calls.specs.declared.chronicle.Noted.{Noted}
use Rattle.skk_calls.specs.declared.chronicle.Noted.TheVariants.{Entered}
use Rattle.skk_calls.specs.Chronicles.{history_of}
use Rattle.skk_calls.specs.declared.answer.Reply.{Reply}
use Rattle.skk_calls.specs.declared.entry.Entry.{Entry}
use Rattle.skk_calls.specs.Dictionary.{answer, after, moves, is_change}
use Rattle.skk_calls.specs.Histories.{Opening, LacksRoom, IsLegalAnswer, after_answer, in_doubt, in_doubt_after}
use Rattle.skk_calls.specs.Histories.{state_after, states_left}
use Rattle.skk_calls.specs.Rows.{Row}
use Rattle.skk_calls.specs.States.{State}
use Rattle.skk_disk.specs.Image.{Image}
use Rattle.learned_store.specs.Stores.{RecoversOneOf, with_doubt, states_within, DoubtAfter}
use Rattle.learned_store.specs.Stands.{left_behind, IsOneOf}
use Rattle.skk_calls.specs.HistoryLaws.{state-more, doubt-more, history-more}

-- one of fewer states is one of more
pub recovers-more : (few many : List State) → ((state : State) → Contains few state → Contains many state)
    → (image : Image) → RecoversOneOf few image → RecoversOneOf many image
recovers-more few many within image is = (is.0, within is.0 is.1, is.2)

head : (state : State) (states : List State) → Contains (state ∷ states) state
head state states = (0, omega arith, refl)

-- what a list of one has
only : {X : Type 0} (x one : X) → Contains (x ∷ []) one → x ≡ one
only x one here = elim (Contains-push_cases [] x one here) [
  | inl none ↦ absurd (omega (arith, none.1))
  | inr same ↦ same
]

-- what holds of the first one and of each behind it holds of each
either : {X : Type 0} (P : X → Type 0) (x : X) (rest : List X) → P x → ((one : X) → Contains rest one → P one)
    → (one : X) → Contains (x ∷ rest) one → P one
either P x rest first behind one here = elim (Contains-append_cases (x ∷ []) rest one here) [
  | inl is ↦ subst P (only x one is) first
  | inr is ↦ behind one is
]

-- a state in doubt is one of more
wider : (doubt : Option State) (few others : List State) → IsOneOf doubt few → IsOneOf doubt (few ++ others)
wider None few others among = tt
wider (Some state) few others among = Contains-append_left few others state among

-- what a state and the one in doubt beside it are
pub doubt-among : (state : State) (doubt : Option State) (rest : List State)
    → IsOneOf doubt (state ∷ rest)
    → (one : State) → Contains (with_doubt state doubt) one → Contains (state ∷ rest) one
doubt-among state None rest among one here =
    Contains-append_left (state ∷ []) rest one here
doubt-among state (Some doubted) rest among one here =
    elim (Contains-append_cases (state ∷ []) (doubted ∷ []) one here) [
      | inl is ↦ Contains-append_left (state ∷ []) rest one is
      | inr is ↦ subst (Contains (state ∷ rest)) (only doubted one is) among
    ]

-- a call changes the state by what it is answered, whatever the system files are
same-change : (files : List (List Row)) (state : State) (call : Call)
    → is_change (answer files state call) ≡ moves state call
same-change files state call = grind arith

module _ (opening : Opening) (notes : List Noted) (number time faults : ℕ) (call : Call) where
  abbrev pub now : State
  now = state_after opening.state (history_of notes)

  abbrev pub doubts : List Call
  doubts = in_doubt [] (history_of notes)

  -- the states that a stop may leave with one entry more
  abbrev pub more : Answer → List State
  more given = left_behind opening.state (notes ++ Entered number call given time faults ∷ [])

  left-more : (given : Answer) → more given
      ≡ after_answer now call given ∷ map (after (after_answer now call given)) (in_doubt_after doubts call given)
  left-more given =
      let entry : Entry = record { number = number; call = call; answer = given } in
      let history = history_of notes in
      ap (states_left opening.state) (history-more notes (Entered number call given time faults))
      ∙ (λ i. (state-more opening.state history entry i)
      ∷ map (after (state-more opening.state history entry i)) (doubt-more [] history entry i))

  -- where nothing changed they are the same
  same-left : (given : Answer) → after_answer now call given ≡ now → in_doubt_after doubts call given ≡ doubts
      → more given ≡ left_behind opening.state notes
  same-left given state same = left-more given ∙ (λ i. state i ∷ map (after (state i)) (same i))

  still-left : (reply : Reply) → is_change reply ≡ false → reply ≡ answer opening.files now call
      → more (Done reply) ≡ left_behind opening.state notes
  still-left reply still is =
      same-left (Done reply) (grind (arith, same-change opening.files now call, is)) (grind arith)

  -- what a disk failed may be left, beside what might have been before
  disk-left : more (Refused Disk) ≡ left_behind opening.state notes ++ after now call ∷ []
  disk-left =
      left-more (Refused Disk)
      ∙ ap (λ states. now ∷ states) (map-append (after now) doubts (call ∷ []))

  -- what a change leaves
  changed-left : (reply : Reply) → Contains (more (Done reply)) (after now call)
  changed-left reply = subst (λ states. Contains states (after now call)) (sym (left-more (Done reply))) (head _ _)

  -- each image within the call is opened as what a stop may leave without the entry, or with it
  pub within-left : (given : Answer) (doubt : Option State) → IsOneOf doubt (left_behind opening.state notes)
      → (image : Image)
      → RecoversOneOf (states_within now doubt call given) image
      → RecoversOneOf (left_behind opening.state notes) image ⊎ RecoversOneOf (more given) image
  within-left (Done reply) doubt among image is =
      elim (is_change reply) as (λ b. RecoversOneOf (if b then with_doubt now doubt ++ after now call ∷ []
      else with_doubt now doubt) image
      → RecoversOneOf (left_behind opening.state notes) image ⊎ RecoversOneOf (more (Done reply)) image) [
        | true ↦ λ one. elim (Contains-append_cases (with_doubt now doubt) (after now call ∷ []) one.0 one.1) [
          | inl old ↦ inl (one.0, doubt-among now doubt _ among one.0 old, one.2)
          | inr new ↦ inr (
            one.0,
            subst (Contains (more (Done reply))) (only (after now call) one.0 new)
                (changed-left reply),
            one.2,
          )
        ]
        | false ↦ λ one. inl (one.0, doubt-among now doubt _ among one.0 one.1, one.2)
      ] is
  within-left (Refused Memory) doubt among image is = inl (is.0, doubt-among now doubt _ among is.0 is.1, is.2)
  within-left (Refused Disk) doubt among image is =
      elim (Contains-append_cases (with_doubt now doubt) (after now call ∷ []) is.0 is.1) [
        | inl old ↦ inl (is.0, doubt-among now doubt _ among is.0 old, is.2)
        | inr new ↦ inr (
          is.0,
          subst (λ states. Contains states is.0) (sym disk-left)
              (Contains-append_right (left_behind opening.state notes) (after now call ∷ []) is.0 new),
          is.2,
        )
      ]
  within-left (Refused (JournalFull told need limit)) doubt among image is =
      inl (is.0, doubt-among now doubt _ among is.0 is.1, is.2)

  -- what is in doubt after the call is what a stop may leave with the entry
  pub doubt-left : (given : Answer) (doubt later : Option State)
      → IsLegalAnswer LacksRoom opening now call given
      → IsOneOf doubt (left_behind opening.state notes) → DoubtAfter now doubt call given later
      → IsOneOf later (more given)
  doubt-left (Done reply) doubt later legal among is =
      elim (cases_Bool (is_change reply)) [
        | inl changed ↦
            let none : later ≡ None = is ∙ ap (λ b. if b then None else doubt) changed in
            subst (λ d. IsOneOf d (more (Done reply))) (sym none) tt
        | inr still ↦
            let same : later ≡ doubt = is ∙ ap (λ b. if b then None else doubt) still in
            subst (λ d. IsOneOf d (more (Done reply))) (sym same)
            (subst (IsOneOf doubt) (sym (still-left reply still legal)) among)
      ]
  doubt-left (Refused Memory) doubt later legal among is =
      subst (λ d. IsOneOf d (more (Refused Memory))) (sym is)
      (subst (IsOneOf doubt) (sym (same-left (Refused Memory) refl refl)) among)
  doubt-left (Refused Disk) doubt later legal among is =
      let is_left : Option State → Type 0 = λ (d : Option State). IsOneOf d (more (Refused Disk)) in
      either is_left doubt (None ∷ Some now ∷ Some (after now call) ∷ [])
      (subst (IsOneOf doubt) (sym disk-left)
      (wider doubt (left_behind opening.state notes) (after now call ∷ []) among))
      (either is_left None (Some now ∷ Some (after now call) ∷ []) tt
      (either is_left (Some now) (Some (after now call) ∷ [])
      (subst (λ states. Contains states now) (sym (left-more (Refused Disk))) (head _ _))
      (λ one here. subst is_left (only (Some (after now call)) one here)
      (subst (λ states. Contains states (after now call)) (sym disk-left)
      (Contains-push (left_behind opening.state notes) (after now call))))))
      later is
  doubt-left (Refused (JournalFull told need limit)) doubt later legal among is =
      subst (λ d. IsOneOf d (more (Refused (JournalFull told need limit)))) (sym is) tt
