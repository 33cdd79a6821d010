-- Lists of items with numbers: what they come to is told by what the items of each number are.
use Rattle.std.proofs.Common.{◌≡◌, ◌∙◌, ap, sym, subst, refl, arith, ℕ, ◌+◌, ◌==◌, Bool, true, false, cond}
use Rattle.std.proofs.Common.{None, Some, List, [], ◌∷◌}
use Rattle.std.specs.List.{cons_option, filter_map, sum_by}
use Rattle.std.proofs.lemmas.Bool.{eq-eqb, eqb-true}
use Rattle.std.proofs.lemmas.List.Sums.{sum_by-cons}

module _ {X Y : Type 0} (number_of : X → ℕ) (part : X → Y) where
  -- the parts of the items of a number, in their order
  abbrev pub parts : ℕ → List X → List Y
  parts number items = filter_map (λ item. cond (number_of item == number) (Some (part item)) None) items

  -- the first item is of the number, or not
  pub part-own : (item : X) (items : List X) (number : ℕ) → (number_of item == number) ≡ true
      → parts number (item ∷ items) ≡ part item ∷ parts number items
  part-own item items number own = ap (λ b. cons_option (cond b (Some (part item)) None) (parts number items)) own

  pub part-other : (item : X) (items : List X) (number : ℕ) → (number_of item == number) ≡ false
      → parts number (item ∷ items) ≡ parts number items
  part-other item items number other = ap (λ b. cons_option (cond b (Some (part item)) None) (parts number items)) other

  -- parts of other items are there beside one item more
  pub with-first : (item : X) (items others : List X) (number : ℕ) → parts number items ≡ parts number others
      → parts number (item ∷ items) ≡ parts number (item ∷ others)
  with-first item items others number same =
      ap (λ ps. cons_option (cond (number_of item == number) (Some (part item)) None) ps) same

  module _ (weigh : Y → ℕ) where
    -- what all parts weigh
    abbrev pub total : List X → ℕ
    total items = sum_by (λ item. weigh (part item)) items

    -- items without one of a number
    record IsWithout (number : ℕ) (one : Y) (rest : List Y) (items : List X) : Type 0 where
      left : List X
      own : parts number left ≡ rest
      others : (other : ℕ) → (number == other) ≡ false → parts other left ≡ parts other items
      weighs : total items ≡ weigh one + total left

    -- the first item of a number is taken out
    taken-out : (items : List X) (number : ℕ) (one : Y) (rest : List Y) → parts number items ≡ one ∷ rest
        → IsWithout number one rest items
    taken-out [] number one rest is = absurd (cc is)
    taken-out (item ∷ items) number one rest is =
        by (number_of item == number) refl (λ others. taken-out items number one rest others)
      where
        by : (b : Bool) → (number_of item == number) ≡ b
            → (parts number items ≡ one ∷ rest → IsWithout number one rest items)
            → IsWithout number one rest (item ∷ items)
        by true own further =
            let both : part item ∷ parts number items ≡ one ∷ rest = sym (part-own item items number own) ∙ is in
            let first : part item ≡ one = cc both in
            record {
              left = items;
              own = cc both;
              others =
                  λ other differ. sym (part-other item items other
                  (subst (λ n. (n == other) ≡ false) (sym (eqb-true (number_of item) number own)) differ));
              weighs =
                  sum_by-cons (λ i. weigh (part i)) item items ∙ ap (λ p. weigh p + total items) first;
            }
        by false differs further =
            let out = further (sym (part-other item items number differs) ∙ is) in
            record {
              left = item ∷ out.left;
              own = part-other item out.left number differs ∙ out.own;
              others = λ other differ. with-first item out.left items other (out.others other differ);
              weighs = omega (
                arith,
                sum_by-cons (λ i. weigh (part i)) item items,
                sum_by-cons (λ i. weigh (part i)) item out.left,
                out.weighs,
              );
            }

    -- items whose parts of each number are the same weigh the same
    pub same-total : (items others : List X) → ((number : ℕ) → parts number items ≡ parts number others)
        → total items ≡ total others
    same-total [] [] same = refl
    same-total [] (other ∷ others) same =
        absurd (cc (same (number_of other)
        ∙ part-own other others (number_of other) (eq-eqb (number_of other) (number_of other) refl)))
    same-total (item ∷ items) others same =
        sum_by-cons (λ i. weigh (part i)) item items
        ∙ ap (λ t. weigh (part item) + t)
        (same-total items out.left (λ number. grind (arith, out.own, out.others number, same number)))
        ∙ sym out.weighs
      where
        out : IsWithout (number_of item) (part item) (parts (number_of item) items) others
        out =
            taken-out others (number_of item) (part item) (parts (number_of item) items)
            (sym (same (number_of item))
            ∙ part-own item items (number_of item) (eq-eqb (number_of item) (number_of item) refl))
