-- Texts cut at their commas: the first part, and the numbers of those behind it.
use Rattle.std.proofs.Common.{◌≡◌, ◌⊎◌, ◌↔◌, ◌<◌, ◌==◌, ◌&&◌, ◌∙◌, sym, ap, refl, arith, ℕ, Bool, true, false, cond}
use Rattle.std.proofs.Common.{None, Some, Option, Result, Ok, Err, IfOk, IsErrOf, List, [], ◌∷◌, ◌++◌, length, inl, inr}
use Rattle.std.proofs.Common.{subst, MatchOption, append_assoc, length-append}
use Rattle.std.specs.Option.{IfSome, is_none, option_map, option_and_then}
use Rattle.std.specs.Result.{result_ok}
use Rattle.std.proofs.lemmas.Option.{IfSome_then}
use Rattle.skk_text.specs.Lines.{with_first}
use Rattle.command_line.specs.OptionLaws.{IfSome-map}
use Rattle.skk_calls.specs.BookLists.{has_count, twice_at}
use Rattle.skk_calls.specs.declared.book_list.BookListFault.{BookListFault}
use Rattle.skk_calls.specs.declared.book_list.BookListFault.TheVariants.{Count, Twice}
use Rattle.command_line.specs.Words.{AreNoneOrBeyond, cut, listed, number_within, numbers_in, numbers_of}
use Rattle.command_line.specs.Words.{parts_of, with_character, with_front}

-- what stands before the first comma is the first part, and the others are those of what is behind, which is shorter
parts-cut : (word : List ℕ)
    → IfSome (cut 44 word) (λ parts. (parts_of word ≡ parts.0 ∷ parts_of parts.1) × (length parts.1 < length word))
parts-cut [] = tt
parts-cut (c ∷ cs) = by (c == 44) (parts-cut cs)
  where
    by : (comma : Bool)
        → IfSome (cut 44 cs) (λ parts. (parts_of cs ≡ parts.0 ∷ parts_of parts.1) × (length parts.1 < length cs))
        → IfSome (cond comma (Some ([], cs)) (option_map (with_character c) (cut 44 cs))) (λ parts.
        (cond comma ([] ∷ parts_of cs) (with_first c (parts_of cs)) ≡ parts.0 ∷ parts_of parts.1)
        × (length parts.1 < length (c ∷ cs)))
    by true rest = (refl, omega arith)
    by false rest =
        IfSome-map (λ parts. (with_first c (parts_of cs) ≡ parts.0 ∷ parts_of parts.1)
        × (length parts.1 < length (c ∷ cs))) (with_character c) (cut 44 cs)
        (IfSome_then (cut 44 cs) rest (λ parts is. (ap (with_first c) is.0, omega (arith, is.1))))

-- a text without a comma is one part
parts-uncut : (word : List ℕ) → cut 44 word ≡ None → parts_of word ≡ word ∷ []
parts-uncut [] none = refl
parts-uncut (c ∷ cs) none = grind (arith, parts-uncut cs)

-- the numbers of a text with a comma are the one of its first part before those behind it, and of one without, its own
abbrev own_before : List ℕ → Option (List ℕ) → Option (List ℕ)
own_before part others = option_and_then (λ number. with_front (number ∷ []) others) (number_within 0 65535 part)

cut-so : (word first rest : List ℕ) → cut 44 word ≡ Some (first, rest)
    → (parts_of word ≡ first ∷ parts_of rest) × (length rest < length word)
cut-so word first rest is =
    subst (λ o. IfSome o (λ parts. (parts_of word ≡ parts.0 ∷ parts_of parts.1) × (length parts.1 < length word)))
    is (parts-cut word)

numbers-cut : (word first rest : List ℕ) → cut 44 word ≡ Some (first, rest)
    → numbers_in word ≡ own_before first (numbers_in rest)
numbers-cut word first rest is = ap numbers_of (cut-so word first rest is).0

numbers-uncut : (word : List ℕ) → cut 44 word ≡ None → numbers_in word ≡ own_before word (Some [])
numbers-uncut word none = ap numbers_of (parts-uncut word none)

-- what is behind the first comma is shorter
pub behind-shorter : (word first rest : List ℕ) → cut 44 word ≡ Some (first, rest) → length rest < length word
behind-shorter word first rest is = (cut-so word first rest is).1

-- where a part writes no number, or there is no room for it, there are none, or too many
beyond-front : (numbers : List ℕ) (own : Option ℕ) (others : Option (List ℕ)) → (own ≡ None) ⊎ (length numbers ≡ 8)
    → AreNoneOrBeyond (with_front numbers (option_and_then (λ number. with_front (number ∷ []) others) own))
beyond-front numbers None others why = tt
beyond-front numbers (Some number) None why = tt
beyond-front numbers (Some number) (Some more) (inl none) = absurd (cc)
beyond-front numbers (Some number) (Some more) (inr full) =
    omega (arith, full, length-append numbers (number ∷ more))

-- numbers behind others, with a number between
front-joined : (numbers : List ℕ) (number : ℕ) (others : Option (List ℕ))
    → with_front numbers (with_front (number ∷ []) others) ≡ with_front (numbers ++ number ∷ []) others
front-joined numbers number None = refl
front-joined numbers number (Some more) = ap Some (sym (append_assoc numbers (number ∷ []) more))

-- the numbers that were read are those before and behind, or there are none, or too many
abbrev pub Reads : {A : Type 0} → (A → List ℕ) → Option A → List ℕ → List ℕ → Type 0
Reads items read numbers word =
    MatchOption read (AreNoneOrBeyond (with_front numbers (numbers_in word)))
    (λ all. with_front numbers (numbers_in word) ≡ Some (items all))

-- so it is with a text without a comma, of which the number was added
pub one-behind : {A : Type 0} (items : A → List ℕ) (read : Option A) (numbers word : List ℕ) → cut 44 word ≡ None
    → MatchOption read ((number_within 0 65535 word ≡ None) ⊎ (length numbers ≡ 8))
    (λ all. (number : ℕ) × (number_within 0 65535 word ≡ Some number) × (items all ≡ numbers ++ number ∷ []))
    → Reads items read numbers word
one-behind items None numbers word uncut why =
    subst (λ others. AreNoneOrBeyond (with_front numbers others)) (sym (numbers-uncut word uncut))
    (beyond-front numbers (number_within 0 65535 word) (Some []) why)
one-behind items (Some all) numbers word uncut is =
    ap (with_front numbers) (numbers-uncut word uncut
    ∙ ap (option_and_then (λ number. with_front (number ∷ []) (Some []))) is.1)
    ∙ ap Some (sym is.2)

-- with one whose first part was not added
pub none-behind : (numbers word first rest : List ℕ) → cut 44 word ≡ Some (first, rest)
    → (number_within 0 65535 first ≡ None) ⊎ (length numbers ≡ 8)
    → AreNoneOrBeyond (with_front numbers (numbers_in word))
none-behind numbers word first rest is why =
    subst (λ others. AreNoneOrBeyond (with_front numbers others)) (sym (numbers-cut word first rest is))
    (beyond-front numbers (number_within 0 65535 first) (numbers_in rest) why)

-- and with one whose first part was, and what is behind it was read
pub more-behind : {A : Type 0} (items : A → List ℕ) (read : Option A) (numbers front word first rest : List ℕ)
    (number : ℕ) → cut 44 word ≡ Some (first, rest) → number_within 0 65535 first ≡ Some number
    → front ≡ numbers ++ number ∷ [] → Reads items read front rest → Reads items read numbers word
more-behind items read numbers front word first rest number is own added reads =
    let same : with_front numbers (numbers_in word) ≡ with_front front (numbers_in rest) =
    ap (with_front numbers) (numbers-cut word first rest is
    ∙ ap (option_and_then (λ n. with_front (n ∷ []) (numbers_in rest))) own)
    ∙ front-joined numbers number (numbers_in rest)
    ∙ ap (λ ns. with_front ns (numbers_in rest)) (sym added) in
    subst (λ found. MatchOption read (AreNoneOrBeyond found) (λ all. found ≡ Some (items all))) (sym same) reads

-- The list that numbers are

-- numbers make a list, or they are none
made-of : (numbers : List ℕ) (made : Result (List ℕ) BookListFault) → IfOk made (λ list. list ≡ numbers)
    → ((count : ℕ) → IsErrOf made (Count count) ↔ ((has_count numbers ≡ false) × (count ≡ length numbers)))
    → ((at : ℕ) → IsErrOf made (Twice at) ↔ ((has_count numbers ≡ true) × (twice_at numbers ≡ Some at)))
    → result_ok made ≡ listed numbers
made-of numbers (Err (Count count)) is counts twice =
    ap (λ b. cond (b && is_none (twice_at numbers)) (Some numbers) None) (sym ((counts count).0 refl).0)
made-of numbers (Err (Twice at)) is counts twice =
    let why = (twice at).0 refl in
    grind (arith, why)
made-of numbers (Ok list) is counts twice = by (has_count numbers) (twice_at numbers) refl refl
  where
    by : (some : Bool) (found : Option ℕ) → has_count numbers ≡ some → twice_at numbers ≡ found
        → Some list ≡ cond (some && is_none found) (Some numbers) None
    by false found none is_found = absurd (cc ((counts (length numbers)).1 (none, refl)))
    by true (Some at) some is_found = absurd (cc ((twice at).1 (some, is_found)))
    by true None some is_found = ap Some is

pub made-listed : (numbers : Option (List ℕ)) (all : List ℕ) (made : Result (List ℕ) BookListFault)
    → with_front [] numbers ≡ Some all → IfOk made (λ list. list ≡ all)
    → ((count : ℕ) → IsErrOf made (Count count) ↔ ((has_count all ≡ false) × (count ≡ length all)))
    → ((at : ℕ) → IsErrOf made (Twice at) ↔ ((has_count all ≡ true) × (twice_at all ≡ Some at)))
    → result_ok made ≡ option_and_then listed numbers
made-listed None all made are is counts twice = absurd (cc)
made-listed (Some numbers) all made are is counts twice =
    made-of all made is counts twice ∙ ap (option_and_then listed) (sym are)
