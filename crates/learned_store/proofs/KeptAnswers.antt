-- What is kept of look-ups stays what the dictionary answers.
use Rattle.std.proofs.Common.{◌≡◌, ◌⊎◌, ℕ, Bool, true, false, cond, Option, None, Some, List, [], refl, sym, ap}
use Rattle.std.proofs.Common.{◌∙◌, ⊎_elim}
use Rattle.skk_calls.specs.declared.answer.Answer.{Answer}
use Rattle.skk_calls.specs.declared.answer.Answer.TheVariants.{Done, Refused}
use Rattle.skk_calls.specs.declared.answer.Reply.TheVariants.{Found}
use Rattle.skk_calls.specs.declared.call.Call.{Call}
use Rattle.skk_calls.specs.declared.call.Call.TheVariants.{Lookup, Complete, Learn, Purge, Annotate, Share, Unlearn}
use Rattle.skk_calls.specs.Dictionary.{answer, after, is_call, may_reply, speaks_of}
use Rattle.skk_calls.specs.Found.{found}
use Rattle.skk_calls.specs.Histories.{after_answer}
use Rattle.skk_calls.specs.KeyLaws.{same_itself, same_key_equal}
use Rattle.skk_calls.specs.Rows.{RowKey, Cand, Row, same_text, same_key}
use Rattle.skk_calls.specs.States.{State}
use Rattle.learned_store.specs.KeptLookUps.{KeptReadings, kept_cands, AreAnswers}
use Rattle.learned_store.proofs.KeptReadings.{never}

module _ (files : List (List Row)) (state : State) where
  pub none_kept : AreAnswers files state []
  none_kept (Lookup who key okuri) cands is = never cands is
  none_kept (Complete who prefix) cands is = never cands is
  none_kept (Learn book key okuri cand) cands is = never cands is
  none_kept (Purge book key word) cands is = never cands is
  none_kept (Annotate book key cand) cands is = never cands is
  none_kept (Share who books) cands is = never cands is
  none_kept (Unlearn learned) cands is = never cands is

  pub same_kept : (old new : KeptReadings) → AreAnswers files state old
      → ((call : Call) → kept_cands new call ≡ kept_cands old call) → AreAnswers files state new
  same_kept old new answers same call cands is = answers call cands (sym (same call) ∙ is)

  -- one more was kept, of this call
  pub more_kept : (old new : KeptReadings) (call : Call) (cands : List Cand) → AreAnswers files state old
      → answer files state call ≡ Found cands
      → ((other : Call) (others : List Cand) → kept_cands new other ≡ Some others
      → (kept_cands old other ≡ Some others) ⊎ ((other ≡ call) × (others ≡ cands)))
      → AreAnswers files state new
  more_kept old new call cands answers finds more other others is =
      ⊎_elim
      (λ there. answers other others there)
      (λ same. ap (answer files state) same.0 ∙ (finds ∙ ap Found (sym same.1)))
      (more other others is)

  -- what is kept of a call is a reply that it may get
  pub may_be_kept : (kept : KeptReadings) (call : Call) (cands : List Cand) → kept_cands kept call ≡ Some cands
      → may_reply call (Found cands) ≡ true
  may_be_kept kept (Lookup who key okuri) cands is = refl
  may_be_kept kept (Complete who prefix) cands is = never cands is
  may_be_kept kept (Learn book key okuri cand) cands is = never cands is
  may_be_kept kept (Purge book key word) cands is = never cands is
  may_be_kept kept (Annotate book key cand) cands is = never cands is
  may_be_kept kept (Share who books) cands is = never cands is
  may_be_kept kept (Unlearn learned) cands is = never cands is

-- a call that changes the row of a key, and no list, leaves what is kept of other readings
module _ (files : List (List Row)) (old new : State) (kept left : KeptReadings) (key : RowKey) (call : Call)
    (keys : (book : ℕ) (other : RowKey) → speaks_of call book other ≡ true → same_key key other ≡ true)
    (leaves : (who : ℕ) (other : RowKey) (okuri : Option (List ℕ)) → is_call call ≡ true
    → ((book : ℕ) → speaks_of call book other ≡ false)
    → found files (after old call) who other okuri ≡ found files old who other okuri) where
  -- it speaks of no row of another reading
  silent : (other : RowKey) → same_text other.reading key.reading ≡ false → (book : ℕ)
      → speaks_of call book other ≡ false
  silent other differ book = by (speaks_of call book other) refl
    where
      by : (b : Bool) → speaks_of call book other ≡ b → b ≡ false
      by true speaks =
          let read : key.reading ≡ other.reading =
          ap (λ (k : RowKey). k.reading) (same_key_equal key other (keys book other speaks)) in
          sym (ap (same_text other.reading) read ∙ same_itself other.reading) ∙ differ
      by false speaks = refl

  found_still : (given : Answer) → new ≡ after_answer old call given → is_call call ≡ true
      → (who : ℕ) (other : RowKey) (okuri : Option (List ℕ)) → same_text other.reading key.reading ≡ false
      → found files new who other okuri ≡ found files old who other okuri
  found_still (Done reply) is typed who other okuri differ =
      ap (λ (s : State). found files s who other okuri) is ∙ leaves who other okuri typed (silent other differ)
  found_still (Refused refusal) is typed who other okuri differ =
      ap (λ (s : State). found files s who other okuri) is

  pub kept_elsewhere : (given : Answer) → new ≡ after_answer old call given → (new ≡ old) ⊎ (is_call call ≡ true)
      → AreAnswers files old kept
      → ((who : ℕ) (other : RowKey) (okuri : Option (List ℕ)) → kept_cands left (Lookup who other okuri)
      ≡ cond (same_text other.reading key.reading) None (kept_cands kept (Lookup who other okuri)))
      → AreAnswers files new left
  kept_elsewhere given is typed answers forgets (Lookup who other okuri) cands there =
      by (same_text other.reading key.reading) refl (sym (forgets who other okuri) ∙ there)
    where
      by : (b : Bool) → same_text other.reading key.reading ≡ b
          → cond b None (kept_cands kept (Lookup who other okuri)) ≡ Some cands
          → answer files new (Lookup who other okuri) ≡ Found cands
      by true same gone = never cands gone
      by false differ was =
          let same : found files new who other okuri ≡ found files old who other okuri =
          ⊎_elim
          (λ unmoved. ap (λ (s : State). found files s who other okuri) unmoved)
          (λ call_is. found_still given is call_is who other okuri differ)
          typed in
          ap Found same ∙ answers (Lookup who other okuri) cands was
  kept_elsewhere given is typed answers forgets (Complete who prefix) cands there = never cands there
  kept_elsewhere given is typed answers forgets (Learn book k okuri cand) cands there = never cands there
  kept_elsewhere given is typed answers forgets (Purge book k word) cands there = never cands there
  kept_elsewhere given is typed answers forgets (Annotate book k cand) cands there = never cands there
  kept_elsewhere given is typed answers forgets (Share who books) cands there = never cands there
  kept_elsewhere given is typed answers forgets (Unlearn learned) cands there = never cands there
