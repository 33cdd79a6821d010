-- A row that is put again with another stamp.
use Rattle.std.proofs.Common.{◌≡◌, ℕ, ◌≤◌, true, ◌&&◌, nat_le, Option, Some, List, ◌∷◌, ◌++◌}
use Rattle.std.proofs.Common.{refl, sym, ap, ◌∙◌, subst, arith}
use Rattle.std.proofs.lemmas.Bool.{and_parts, and_from, le-leb}
use Rattle.std.specs.BTreeMap.{BTreeMap, Updates}
use Rattle.std.specs.Ordering.{nat_cmp}
use Rattle.skk_calls.specs.Canonical.{is_good}
use Rattle.skk_calls.specs.Rows.{Row, is_row}
use Rattle.skk_calls.specs.States.{State, row_at, count_of, fits_count, has_stamp}
use Rattle.learned_store.specs.declared.form.PayloadForm.{PayloadForm}
use Rattle.learned_store.specs.declared.form.PayloadForm.TheVariants.{Put}
use Rattle.learned_store.specs.declared.row_place.RowPlace.{RowPlace}
use Rattle.learned_store.specs.Gathering.{AreOf, IsRestamped, ListMap, count_in, place_at}
use Rattle.learned_store.specs.Payloads.{Says, are_held, book_number, wide_number, is_sound, state_told}
use Rattle.learned_store.specs.Reading.{put_with}
use Rattle.learned_store.proofs.Gathering.{IsChanged, put_told, are_told, count_given, row_key, row_fits}

module _ (before after : RowPlace → Option Row) (counts later : BTreeMap ℕ ℕ) (book count stamp : ℕ)
    (place : RowPlace) (bytes : List ℕ) (own : place.book ≡ book) (held : are_held book count ≡ true)
    (stamped : (nat_le 1 stamp && nat_le stamp count) ≡ true)
    (restamped : IsRestamped before after place stamp bytes) (set : Updates nat_cmp counts later book (Some count))
    (lists : ListMap) (state : State) (version : ℕ) (some : 1 ≤ version) (are : AreOf state counts lists before)
    (counted : count_in counts book ≤ count) where
  -- the row that was gathered
  abbrev found : Row
  found = restamped.row

  there : row_at state place.book place.key ≡ Some found
  there = sym (are.row place.book place.key) ∙ restamped.there

  fits : fits_count (count_of state place.book) found ≡ true
  fits = row_fits state are.valid place found there

  -- with its stamp now
  abbrev again : Row
  again = record found { stamp = stamp }

  fits_again : fits_count count again ≡ true
  fits_again =
      let parts = and_parts (is_row found) (is_good found && has_stamp (count_of state place.book) found) fits in
      let good = and_parts (is_good found) (has_stamp (count_of state place.book) found) parts.1 in
      and_from (is_row again) (is_good again && has_stamp count again) parts.0
      (and_from (is_good again) (has_stamp count again) good.0 stamped)

  sound : is_sound (Put book count again) ≡ true
  sound = grind (arith, fits_again, restamped.spelled.characters)

  later_count : count_of state book ≤ count
  later_count = subst (λ (n : ℕ). n ≤ count) (are.count book) counted

  -- a record says so
  says_again : Says version state (put_with book count stamp bytes) (Put book count again)
  says_again = record {
    known = le-leb 1 version some;
    sound = sound;
    counted = later_count;
    follows = refl;
    is = ap (λ (b : List ℕ). 1 ∷ (book_number book ++ (wide_number count ++ (wide_number stamp ++ b))))
        restamped.spelled.is;
  }

  changed : IsChanged before after (place_at book place.key) (Some again)
  changed =
      subst (λ (n : ℕ). IsChanged before after (place_at n place.key) (Some again)) own restamped.changed

  -- and this is gathered then
  are_again : AreOf (state_told state (Put book count again)) later lists after
  are_again =
      are_told before after counts later lists lists (Put book count again)
      (put_told before after book count place.key again (sym (row_key state are.valid place found there)) changed)
      (count_given counts later book count set) (λ typist. refl) state are sound later_count refl

  -- so a record says something, and what it leaves is gathered
  pub added : (form : PayloadForm) × Says version state (put_with book count stamp bytes) form
      × AreOf (state_told state form) later lists after
  added = (Put book count again, says_again, are_again)
