-- What is kept of readings, after each way of changing that.
use Rattle.std.proofs.Common.{◌≡◌, ◌⊎◌, ℕ, zero, suc, ◌-◌, Bool, true, false, cond, ◌&&◌, ◌==◌, Option, None, Some}
use Rattle.std.proofs.Common.{List, [], ◌∷◌, ◌++◌, take, find, String, string_bytes, encode_utf8_all, inl, inr, ⊎_elim}
use Rattle.std.proofs.Common.{refl, sym, ap, subst, ◌∙◌}
use Rattle.std.specs.Prelude.{Result, Ok, Err, OnOk, OnErr}
use Rattle.std.specs.declared.alloc.Global.{Global}
use Rattle.std.specs.List.{AllByRecursion, IsDistinct}
use Rattle.std.specs.Map.{keys_of, lookup, lookup_entry, remove_entry}
use Rattle.std.specs.Option.{option_map, option_map_or}
use Rattle.std.specs.Str.{bytes_eq}
use Rattle.std.specs.String.{string_eq, string_eq_equiv}
use Rattle.std.proofs.lemmas.Bool.{and_parts, eqb-true}
use Rattle.std.proofs.lemmas.Map.Keys.{IsDistinct-head, IsDistinct-tail}
use Rattle.std.proofs.lemmas.Slice.Eq.{bytes_eq-Decides}
use Rattle.std.proofs.lemmas.Str.{encodes_same}
use Rattle.lru.specs.LruCache.{LruCache, lru_cache, promoted, put_entries}
use Rattle.lru.proofs.CallerLemmas.{lookup-put_entries}
use Rattle.skk_calls.specs.declared.call.Call.{Call}
use Rattle.skk_calls.specs.declared.call.Call.TheVariants.{Lookup, Complete, Learn, Purge, Annotate, Share, Unlearn}
use Rattle.skk_calls.specs.declared.part.Part.{Part}
use Rattle.skk_calls.specs.KeyLaws.{same_encoded, same_equal, same_part_equal}
use Rattle.skk_calls.specs.Rows.{RowKey, Cand, same_text, same_part}
use Rattle.learned_store.specs.declared.kept_answer.KeptAnswer.{KeptAnswer}
use Rattle.learned_store.specs.KeptLookUps.{KeptReadings, same_okuri, is_of, cands_in, cands_among, is_reading}
use Rattle.learned_store.specs.KeptLookUps.{kept_cands, IsAnswerOf}

-- Lists of keys with their values

some_same : {X : Type 0} (x y : X) → Some x ≡ Some y → x ≡ y
some_same x y is = cc

pub never : {X Y : Type 0} (x : X) → None ≡ Some x → Y
never x is = cc

module _ {K V : Type 0} (test : K → Bool) where
  -- the first entry whose key passes has the value that is looked up
  entry_found : (es : List (K × V)) (e : K × V) → lookup_entry test es ≡ Some e
      → (test e.0 ≡ true) × (lookup test es ≡ Some e.1)
  entry_found [] e is = never e is
  entry_found (f ∷ es) e is = by (test f.0) refl (λ on. entry_found es e on) is
    where
      by : (b : Bool) → test f.0 ≡ b
          → (lookup_entry test es ≡ Some e → (test e.0 ≡ true) × (lookup test es ≡ Some e.1))
          → cond b (Some f) (lookup_entry test es) ≡ Some e
          → (test e.0 ≡ true) × (cond b (Some f.1) (lookup test es) ≡ Some e.1)
      by true passes rest same =
          let it : f ≡ e = some_same f e same in
          (subst (λ (g : K × V). test g.0 ≡ true) it passes, ap (λ (g : K × V). Some g.1) it)
      by false passes rest same = rest same

  to_front : (es : List (K × V)) (o : Option (K × V)) → lookup_entry test es ≡ o
      → lookup test (option_map_or (λ f. f ∷ remove_entry test es) o es) ≡ lookup test es
  to_front es None is = refl
  to_front es (Some f) is =
      let at = entry_found es f is in
      ap (λ (b : Bool). cond b (Some f.1) (lookup test (remove_entry test es))) at.0 ∙ sym at.1

  -- an entry that goes to the front is found as before
  promoted_found : (es : List (K × V)) → lookup test (promoted test es) ≡ lookup test es
  promoted_found es = to_front es (lookup_entry test es) refl

  -- keys that pass another test, which none of those does that pass this one
  module _ (other : K → Bool) (apart : (k : K) → test k ≡ true → other k ≡ false) where
    removed_others : (es : List (K × V)) → lookup other (remove_entry test es) ≡ lookup other es
    removed_others [] = refl
    removed_others (e ∷ es) = by (test e.0) refl (removed_others es)
      where
        by : (b : Bool) → test e.0 ≡ b → lookup other (remove_entry test es) ≡ lookup other es
            → lookup other (cond b es (e ∷ remove_entry test es)) ≡ cond (other e.0) (Some e.1) (lookup other es)
        by true passes rest =
            sym (ap (λ (b : Bool). cond b (Some e.1) (lookup other es)) (apart e.0 passes))
        by false passes rest = ap (λ (o : Option V). cond (other e.0) (Some e.1) o) rest

    others_front : (es : List (K × V)) (o : Option (K × V)) → lookup_entry test es ≡ o
        → lookup other (option_map_or (λ f. f ∷ remove_entry test es) o es) ≡ lookup other es
    others_front es None is = refl
    others_front es (Some f) is =
        ap (λ (b : Bool). cond b (Some f.1) (lookup other (remove_entry test es)))
        (apart f.0 (entry_found es f is).0)
        ∙ removed_others es

    promoted_others : (es : List (K × V)) → lookup other (promoted test es) ≡ lookup other es
    promoted_others es = others_front es (lookup_entry test es) refl

-- where the keys differ, none that passes is left behind the first one
module _ {K V : Type 0} (eq : K → K → Bool) (test : K → Bool) (one : (x y : K) → test x ≡ true → test y ≡ eq x y) where
  none_passes : (x : K) → test x ≡ true → (es : List (K × V)) → AllByRecursion (λ y. eq x y ≡ false) (keys_of es)
      → lookup test es ≡ None
  none_passes x passes [] apart = refl
  none_passes x passes (e ∷ es) apart =
      ap (λ (b : Bool). cond b (Some e.1) (lookup test es)) (one x e.0 passes ∙ apart.0)
      ∙ none_passes x passes es apart.1

  removed : (es : List (K × V)) → IsDistinct eq (keys_of es) → lookup test (remove_entry test es) ≡ None
  removed [] distinct = refl
  removed (e ∷ es) distinct =
      by (test e.0) refl (removed es (IsDistinct-tail eq e.0 (keys_of es) distinct))
    where
      by : (b : Bool) → test e.0 ≡ b → lookup test (remove_entry test es) ≡ None
          → lookup test (cond b es (e ∷ remove_entry test es)) ≡ None
      by true passes rest = none_passes e.0 passes es (IsDistinct-head eq e.0 (keys_of es) distinct)
      by false passes rest =
          ap (λ (b : Bool). cond b (Some e.1) (lookup test (remove_entry test es))) passes ∙ rest

-- what is found of another key after a pair was put was there before
module _ {K V : Type 0} (eq : K → K → Bool) (c : LruCache K V) (k : K) (v : V) (other : K → Bool)
    (apart : (j : K) → eq k j ≡ true → other j ≡ false) (out : other k ≡ false) where
  taken : (n : ℕ) (es : List (K × V)) (x : V) → lookup other (take n es) ≡ Some x → lookup other es ≡ Some x
  taken zero es x is = never x is
  taken (suc n) [] x is = is
  taken (suc n) (e ∷ es) x is = by (other e.0) (taken n es x) is
    where
      by : (b : Bool) → (lookup other (take n es) ≡ Some x → lookup other es ≡ Some x)
          → cond b (Some e.1) (lookup other (take n es)) ≡ Some x → cond b (Some e.1) (lookup other es) ≡ Some x
      by true rest same = same
      by false rest same = rest same

  put_others : (o : Option (K × V)) → lookup_entry (eq k) c.entries ≡ o → (x : V)
      → lookup other (option_map_or (λ e. (e.0, v) ∷ remove_entry (eq k) c.entries) o
      ((k, v) ∷ take (c.cap - 1) c.entries)) ≡ Some x
      → lookup other c.entries ≡ Some x
  put_others None is x found =
      taken (c.cap - 1) c.entries x
      (sym (ap (λ (b : Bool). cond b (Some v) (lookup other (take (c.cap - 1) c.entries))) out) ∙ found)
  put_others (Some e) is x found =
      sym (removed_others (eq k) other apart c.entries)
      ∙ (sym (ap (λ (b : Bool). cond b (Some v) (lookup other (remove_entry (eq k) c.entries)))
      (apart e.0 (entry_found (eq k) c.entries e is).0)) ∙ found)

  others_put : (x : V) → lookup other (put_entries eq c k v) ≡ Some x → lookup other c.entries ≡ Some x
  others_put x found = put_others (lookup_entry (eq k) c.entries) refl x found

-- Readings

-- a string that is one reading is no other one
other_reading : (reading other : List ℕ) → same_text other reading ≡ false → (string : String Global)
    → is_reading reading string ≡ true → is_reading other string ≡ false
other_reading reading other differ string is =
    ap (bytes_eq (encode_utf8_all other))
    (sym ((bytes_eq-Decides (encode_utf8_all reading) (string_bytes string)).0 is))
    ∙ (same_encoded other reading ∙ differ)

-- strings that are one reading are equal
one_reading : (reading : List ℕ) (string other : String Global) → is_reading reading string ≡ true
    → is_reading reading other ≡ string_eq string other
one_reading reading string other is =
    ap (λ bytes. bytes_eq bytes (string_bytes other))
    ((bytes_eq-Decides (encode_utf8_all reading) (string_bytes string)).0 is)

-- What is kept where readings are let go, used, and put

module _ (reading : List ℕ) (kept : KeptReadings) where
  abbrev pub without : KeptReadings
  without = remove_entry (is_reading reading) kept

  pub touched : (call : Call) → kept_cands (promoted (is_reading reading) kept) call ≡ kept_cands kept call
  touched (Lookup who key okuri) = ap (cands_among key.part who okuri) (by (same_text key.reading reading) refl)
    where
      by : (b : Bool) → same_text key.reading reading ≡ b
          → lookup (is_reading key.reading) (promoted (is_reading reading) kept)
          ≡ lookup (is_reading key.reading) kept
      by true same =
          subst (λ (r : List ℕ). lookup (is_reading r) (promoted (is_reading reading) kept)
          ≡ lookup (is_reading r) kept) (sym (same_equal key.reading reading same))
          (promoted_found (is_reading reading) kept)
      by false differ =
          promoted_others (is_reading reading) (is_reading key.reading)
          (other_reading reading key.reading differ) kept
  touched (Complete who prefix) = refl
  touched (Learn book key okuri cand) = refl
  touched (Purge book key word) = refl
  touched (Annotate book key cand) = refl
  touched (Share who books) = refl
  touched (Unlearn learned) = refl

  module _ (distinct : IsDistinct string_eq (keys_of kept)) where
    pub forgotten : (who : ℕ) (other : RowKey) (okuri : Option (List ℕ))
        → kept_cands without (Lookup who other okuri)
        ≡ cond (same_text other.reading reading) None (kept_cands kept (Lookup who other okuri))
    forgotten who other okuri = by (same_text other.reading reading) refl
      where
        by : (b : Bool) → same_text other.reading reading ≡ b
            → kept_cands without (Lookup who other okuri) ≡ cond b None (kept_cands kept (Lookup who other okuri))
        by true same =
            ap (cands_among other.part who okuri)
            (ap (λ (r : List ℕ). lookup (is_reading r) without) (same_equal other.reading reading same)
            ∙ removed string_eq (is_reading reading) (one_reading reading) kept distinct)
        by false differ =
            ap (cands_among other.part who okuri)
            (removed_others (is_reading reading) (is_reading other.reading)
            (other_reading reading other.reading differ) kept)

    still : (call : Call) (found : List Cand) → kept_cands without call ≡ Some found
        → kept_cands kept call ≡ Some found
    still (Lookup who key okuri) found is =
        by (same_text key.reading reading) (sym (forgotten who key okuri) ∙ is)
      where
        by : (b : Bool) → cond b None (kept_cands kept (Lookup who key okuri)) ≡ Some found
            → kept_cands kept (Lookup who key okuri) ≡ Some found
        by true same = never found same
        by false same = same
    still (Complete who prefix) found is = is
    still (Learn book key okuri cand) found is = is
    still (Purge book key word) found is = is
    still (Annotate book key cand) found is = is
    still (Share who books) found is = is
    still (Unlearn learned) found is = is

    module _ (string : String Global) (spells : string_bytes string ≡ encode_utf8_all reading) (cap : ℕ)
        (answers : List KeptAnswer) where
      abbrev after : KeptReadings
      after = put_entries string_eq (lru_cache without cap) string answers

      -- the candidates are in the answers of this reading
      abbrev pub IsIn : Call → List Cand → Type 0
      IsIn (Lookup who key okuri) found =
          (key.reading ≡ reading) × (cands_in key.part who okuri answers ≡ Some found)
      IsIn call found = ⊥

      -- the string is the reading
      is_spelled : is_reading reading string ≡ true
      is_spelled = (bytes_eq-Decides (encode_utf8_all reading) (string_bytes string)).1 (sym spells)

      same_put : lookup (is_reading reading) after ≡ Some answers
      same_put =
          subst (λ (bytes : List ℕ). lookup (λ (s : String Global). bytes_eq bytes (string_bytes s)) after
          ≡ Some answers) spells
          (lookup-put_entries string_eq (lru_cache without cap) string answers string_eq_equiv)

      other_put : (other : List ℕ) → same_text other reading ≡ false → (x : List KeptAnswer)
          → lookup (is_reading other) after ≡ Some x → lookup (is_reading other) kept ≡ Some x
      other_put other differ x found =
          sym (removed_others (is_reading reading) (is_reading other) (other_reading reading other differ) kept)
          ∙ others_put string_eq (lru_cache without cap) string answers (is_reading other)
          (λ (s : String Global) (same : string_eq string s ≡ true). other_reading reading other differ s
          (subst (λ (bytes : List ℕ). bytes_eq bytes (string_bytes s) ≡ true) spells same))
          (other_reading reading other differ string is_spelled) x found

      among : (part : Part) (who : ℕ) (okuri : Option (List ℕ)) (found : List Cand)
          (o p : Option (List KeptAnswer)) → ((x : List KeptAnswer) → o ≡ Some x → p ≡ Some x)
          → cands_among part who okuri o ≡ Some found → cands_among part who okuri p ≡ Some found
      among part who okuri found None p on is = never found is
      among part who okuri found (Some x) p on is = ap (cands_among part who okuri) (on x refl) ∙ is

      pub put : (call : Call) (found : List Cand) → kept_cands after call ≡ Some found
          → (kept_cands kept call ≡ Some found) ⊎ IsIn call found
      put (Lookup who key okuri) found is = by (same_text key.reading reading) refl
        where
          by : (b : Bool) → same_text key.reading reading ≡ b
              → (kept_cands kept (Lookup who key okuri) ≡ Some found) ⊎ IsIn (Lookup who key okuri) found
          by true same =
              let read = same_equal key.reading reading same in
              inr (
                read,
                sym (ap (cands_among key.part who okuri)
                    (ap (λ (r : List ℕ). lookup (is_reading r) after) read ∙ same_put)) ∙ is,
              )
          by false differ =
              inl (among key.part who okuri found (lookup (is_reading key.reading) after)
              (lookup (is_reading key.reading) kept) (other_put key.reading differ) is)
      put (Complete who prefix) found is = inl is
      put (Learn book key okuri cand) found is = inl is
      put (Purge book key word) found is = inl is
      put (Annotate book key cand) found is = inl is
      put (Share who books) found is = inl is
      put (Unlearn learned) found is = inl is

      -- what `put` leaves, with the memory for it or without
      pub after_put : {X E : Type 0} (new : LruCache (String Global) (List KeptAnswer)) (result : Result X E)
          → OnOk result (new ≡ lru_cache after cap) → OnErr result (new ≡ lru_cache without cap)
          → (call : Call) (found : List Cand) → kept_cands new.entries call ≡ Some found
          → (kept_cands kept call ≡ Some found) ⊎ IsIn call found
      after_put new (Ok x) ok err call found is =
          put call found
          (sym (ap (λ (c : LruCache (String Global) (List KeptAnswer)). kept_cands c.entries call) ok) ∙ is)
      after_put new (Err x) ok err call found is =
          inl (still call found
          (sym (ap (λ (c : LruCache (String Global) (List KeptAnswer)). kept_cands c.entries call) err) ∙ is))

      -- one more answer beside those that were kept of the reading, or alone
      pub one_more : (popped : Option (List KeptAnswer)) → popped ≡ lookup (is_reading reading) kept
          → (roomy : List KeptAnswer) (answer : KeptAnswer)
          → ((part : Part) (who : ℕ) (okuri : Option (List ℕ)) (found : List Cand)
          → cands_in part who okuri roomy ≡ Some found → cands_among part who okuri popped ≡ Some found)
          → ((part : Part) (who : ℕ) (okuri : Option (List ℕ)) (found : List Cand)
          → cands_in part who okuri answers ≡ Some found → (cands_in part who okuri roomy ≡ Some found)
          ⊎ ((is_of part who okuri answer ≡ true) × (answer.cands ≡ found)))
          → (call : Call) (found : List Cand) → (kept_cands kept call ≡ Some found) ⊎ IsIn call found
          → (kept_cands kept call ≡ Some found) ⊎ IsAnswerOf (string_bytes string) answer call found
      one_more popped is roomy answer room added call found (inl there) = inl there
      one_more popped is roomy answer room added (Lookup who key okuri) found (inr inside) =
          ⊎_elim
          (λ there. inl (ap (λ (r : List ℕ). cands_among key.part who okuri (lookup (is_reading r) kept)) inside.0
          ∙ (sym (ap (cands_among key.part who okuri) is) ∙ room key.part who okuri found there)))
          (λ new. inr (ap encode_utf8_all inside.0 ∙ sym spells, new.0, new.1))
          (added key.part who okuri found inside.1)
      one_more popped is roomy answer room added (Complete who prefix) found (inr inside) = absurd inside
      one_more popped is roomy answer room added (Learn book key okuri cand) found (inr inside) = absurd inside
      one_more popped is roomy answer room added (Purge book key word) found (inr inside) = absurd inside
      one_more popped is roomy answer room added (Annotate book key cand) found (inr inside) = absurd inside
      one_more popped is roomy answer room added (Share who books) found (inr inside) = absurd inside
      one_more popped is roomy answer room added (Unlearn learned) found (inr inside) = absurd inside

-- Answers

differ : {Y : Type 0} → false ≡ true → Y
differ is = cc

same_okuri_equal : (okuri other : Option (List ℕ)) → same_okuri okuri other ≡ true → okuri ≡ other
same_okuri_equal None None is = refl
same_okuri_equal None (Some other) is = differ is
same_okuri_equal (Some okuri) None is = differ is
same_okuri_equal (Some okuri) (Some other) is = ap Some (same_equal okuri other is)

-- the call of an answer that was made of a look-up is that look-up
pub same_call : (who : ℕ) (key : RowKey) (okuri : Option (List ℕ)) (cands : List Cand) (bytes : List ℕ)
    → bytes ≡ encode_utf8_all key.reading → (other : Call) (found : List Cand)
    → IsAnswerOf bytes (record { part = key.part; who = who; okuri = okuri; cands = cands }) other found
    → (other ≡ Lookup who key okuri) × (found ≡ cands)
same_call who key okuri cands bytes spells (Lookup w k o) found is =
    let parts = and_parts (same_part key.part k.part) ((who == w) && same_okuri okuri o) is.1 in
    let others = and_parts (who == w) (same_okuri okuri o) parts.1 in
    let part : key.part ≡ k.part = same_part_equal key.part k.part parts.0 in
    let reading : k.reading ≡ key.reading = encodes_same k.reading key.reading (is.0 ∙ spells) in
    let typist : who ≡ w = eqb-true who w others.0 in
    let same : okuri ≡ o = same_okuri_equal okuri o others.1 in
    let keys : k ≡ key =
    ap (λ (p : Part). record { part = p; reading = k.reading }) (sym part)
    ∙ ap (λ (r : List ℕ). record { part = key.part; reading = r }) reading in (
      ap (λ (n : ℕ). Lookup n k o) (sym typist)
          ∙ (ap (λ (l : RowKey). Lookup who l o) keys ∙ ap (λ (p : Option (List ℕ)). Lookup who key p) (sym same)),
      sym is.2,
    )
same_call who key okuri cands bytes spells (Complete w prefix) found is = absurd is
same_call who key okuri cands bytes spells (Learn book k o cand) found is = absurd is
same_call who key okuri cands bytes spells (Purge book k word) found is = absurd is
same_call who key okuri cands bytes spells (Annotate book k cand) found is = absurd is
same_call who key okuri cands bytes spells (Share w books) found is = absurd is
same_call who key okuri cands bytes spells (Unlearn learned) found is = absurd is

module _ (part : Part) (who : ℕ) (okuri : Option (List ℕ)) (answer : KeptAnswer) (found : List Cand) where
  -- what is found where one answer more stands at the end
  pub pushed : (answers : List KeptAnswer) → cands_in part who okuri (answers ++ answer ∷ []) ≡ Some found
      → (cands_in part who okuri answers ≡ Some found)
      ⊎ ((is_of part who okuri answer ≡ true) × (answer.cands ≡ found))
  pushed [] is = by (is_of part who okuri answer) refl is
    where
      by : (b : Bool) → is_of part who okuri answer ≡ b
          → option_map (λ (a : KeptAnswer). a.cands) (cond b (Some answer) None) ≡ Some found
          → (None ≡ Some found) ⊎ ((is_of part who okuri answer ≡ true) × (answer.cands ≡ found))
      by true e same = inr (e, some_same answer.cands found same)
      by false e same = inl same
  pushed (a ∷ answers) is = by (is_of part who okuri a) (pushed answers) is
    where
      cands : Bool → List KeptAnswer → Option (List Cand)
      cands b rest = option_map (λ (k : KeptAnswer). k.cands) (cond b (Some a) (find (is_of part who okuri) rest))

      by : (b : Bool) → (cands_in part who okuri (answers ++ answer ∷ []) ≡ Some found
          → (cands_in part who okuri answers ≡ Some found)
          ⊎ ((is_of part who okuri answer ≡ true) × (answer.cands ≡ found)))
          → cands b (answers ++ answer ∷ []) ≡ Some found → (cands b answers ≡ Some found)
          ⊎ ((is_of part who okuri answer ≡ true) × (answer.cands ≡ found))
      by true rest same = inl same
      by false rest same = rest same
