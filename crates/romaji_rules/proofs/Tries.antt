-- A trie with one node more, and with the place of one rule more.
use Rattle.std.proofs.Common.{◌≡◌, ◌≢◌, ◌⊎◌, ◌<◌, ◌≤◌, ◌+◌, ◌==◌, ◌&&◌, ◌||◌, ℕ, zero, suc, Bool, false, cond}
use Rattle.std.proofs.Common.{Option, None, Some, List, [], ◌∷◌, ◌++◌, length, get_or, set, map, slice_get, inl, inr}
use Rattle.std.proofs.Common.{refl, sym, ap, ◌∙◌, subst, arith, length-append, append_assoc, find, IfSome}
use Rattle.std.specs.List.{position, position_or_len}
use Rattle.std.specs.Option.{option_and_then, option_or}
use Rattle.std.specs.Str.{bytes_eq}
use Rattle.std.proofs.lemmas.Bool.Decides.{Decides-eqb, nat_tests}
use Rattle.std.proofs.lemmas.List.{append-nil, get_or-set_same, get_or-set_other, get_or_past, get_or-map, length-map}
use Rattle.std.proofs.lemmas.List.{length-set, map-append, map-set, set-get_or}
use Rattle.std.proofs.lemmas.List.Folds.{find_at, fold_stays, list_any-append, position_or_len_push}
use Rattle.std.proofs.lemmas.List.Sums.{fold_push}
use Rattle.std.proofs.lemmas.Option.{slice_get_past}
use Rattle.std.proofs.lemmas.Slice.Eq.{bytes_eq-Decides}
use Rattle.skk_text.specs.Lists.{is_empty}
use Rattle.romaji_rules.specs.declared.rule.Rule.{Rule}
use Rattle.romaji_rules.specs.declared.rule_trie.Child.{Child}
use Rattle.romaji_rules.specs.declared.rule_trie.Node.{Node}
use Rattle.romaji_rules.specs.declared.rule_trie.RuleTrie.{RuleTrie}
use Rattle.romaji_rules.specs.RuleTries.{child, child_by, next_node, node_of, goes_on_at, place_at, children_of}
use Rattle.romaji_rules.specs.RuleTries.{places_of, is_beginning, with_child, goes_past, IsTrie, IsRuleTrie, MakesChild}
use Rattle.romaji_rules.specs.RuleTries.{HasNode}
use Rattle.romaji_rules.specs.Typed.{begins_input, rule_of}
use Rattle.romaji_rules.proofs.Differing.{differ_with}

-- a default more changes nothing
default_more : {X : Type 0} (xs : List X) (d : X) (i : ℕ) → get_or (xs ++ d ∷ []) i d ≡ get_or xs i d
default_more [] d zero = refl
default_more [] d (suc i) = refl
default_more (x ∷ xs) d zero = refl
default_more (x ∷ xs) d (suc i) = default_more xs d i

-- Children

-- with one child more its letter leads to it, where it led nowhere
child_more : (children : List Child) (letter node other : ℕ)
    → child_by (children ++ child letter node ∷ []) other
    ≡ option_or (child_by children other) (cond (letter == other) (Some node) None)
child_more [] letter node other = grind arith
child_more (first ∷ children) letter node other = grind (arith, child_more children letter node other)

-- there are some then, and also where a letter leads to one
not_empty : (children : List Child) (more : Child) → is_empty (children ++ more ∷ []) ≡ false
not_empty [] more = refl
not_empty (first ∷ children) more = refl

leads : (children : List Child) (letter node : ℕ) → child_by children letter ≡ Some node → is_empty children ≡ false
leads [] letter node e = cc
leads (first ∷ children) letter node e = refl

-- Texts

-- what holds of the empty text, and of each with a letter more, holds of all
by_letters : (P : List ℕ → Type 0) → P [] → ((text : List ℕ) (letter : ℕ) → P text → P (text ++ letter ∷ []))
    → (text : List ℕ) → P text
by_letters P none more text = go [] text none
  where
    go : (before rest : List ℕ) → P before → P (before ++ rest)
    go before [] p = subst P (sym (append-nil before)) p
    go before (letter ∷ rest) p =
        subst P (append_assoc before (letter ∷ []) rest) (go (before ++ letter ∷ []) rest (more before letter p))

-- a text goes past those that it went past, and past what it was, with a letter more
past_more : (text whole : List ℕ) (letter : ℕ)
    → goes_past text (whole ++ letter ∷ []) ≡ (goes_past text whole || bytes_eq text whole)
past_more [] [] letter = refl
past_more [] (b ∷ whole) letter = grind (arith, nat_tests)
past_more (a ∷ text) [] letter = grind (arith, nat_tests)
past_more (a ∷ text) (b ∷ whole) letter = grind (arith, nat_tests, past_more text whole letter)

-- One node more

module _ (children : List (List Child)) (text : List ℕ) (node letter : ℕ)
    (within : (other : List ℕ) (n : ℕ) → node_of children other ≡ Some n → n < length children)
    (one : (a b : List ℕ) (n : ℕ) → node_of children a ≡ Some n → node_of children b ≡ Some n → a ≡ b)
    (at : node_of children text ≡ Some node)
    (none : child_by (get_or children node []) letter ≡ None) where
  abbrev more : List (List Child)
  more = with_child children node letter

  size : length more ≡ length children + 1
  size =
      length-set (children ++ [] ∷ []) node (get_or children node [] ++ child letter (length children) ∷ [])
      ∙ length-append children ([] ∷ [])

  -- the children of this node and of the others, of which the new one has none
  own : get_or more node [] ≡ get_or children node [] ++ child letter (length children) ∷ []
  own =
      get_or-set_same (children ++ [] ∷ []) node (get_or children node [] ++ child letter (length children) ∷ []) []
      (omega (arith, within text node at, length-append children ([] ∷ [])))

  others : (other : ℕ) → other ≢ node → get_or more other [] ≡ get_or children other []
  others other ne =
      get_or-set_other (children ++ [] ∷ []) node other
      (get_or children node [] ++ child letter (length children) ∷ []) [] ne
      ∙ default_more children [] other

  new : get_or more (length children) [] ≡ []
  new =
      let ne : length children ≢ node = omega (arith, within text node at) in
      others (length children) ne ∙ get_or_past children (length children) [] (omega arith)

  -- the letter leads to the new node, and all others as before
  made : next_node more (Some node) letter ≡ Some (length children)
  made = grind (arith, own, none, child_more (get_or children node []) letter (length children) letter)

  same : (n : Option ℕ) (other : ℕ) → (n ≡ Some node → other ≢ letter)
      → next_node more n other ≡ next_node children n other
  same n other ne =
      grind (arith, ne, own, others, child_more (get_or children node []) letter (length children) other)

  -- a text has the node that it had, or it is the one with the letter more, which had none, and has the new one
  abbrev Stands : List ℕ → Type 0
  Stands other =
      (node_of more other ≡ node_of children other)
      ⊎ ((other ≡ text ++ letter ∷ []) × (node_of children other ≡ None)
      × (node_of more other ≡ Some (length children)))

  stands : (other : List ℕ) → Stands other
  stands = by_letters Stands (inl refl) (λ other l h.
      grind (
        arith,
        h,
        fold_push (next_node more) (Some 0) other l,
        fold_push (next_node children) (Some 0) other l,
        same (node_of children other) l,
        new,
        made,
        one other text node,
        at,
        none,
      ))

  pub more_reached : node_of more (text ++ letter ∷ []) ≡ Some (length children)
  more_reached = grind (arith, fold_push (next_node more) (Some 0) text letter, stands text, at, made)

  pub more_within : (other : List ℕ) (n : ℕ) → node_of more other ≡ Some n → n < length more
  more_within other n e = grind (arith, stands other, within other n, size)

  pub more_one : (a b : List ℕ) (n : ℕ) → node_of more a ≡ Some n → node_of more b ≡ Some n → a ≡ b
  more_one a b n p q = grind (arith, stands a, stands b, one a b n, within a n, within b n)

  -- the text goes on now, and the others do as before
  pub more_begins : (other : List ℕ) → goes_on_at more (node_of more other)
      ≡ (goes_on_at children (node_of children other) || bytes_eq other text)
  more_begins other =
      grind (
        arith,
        stands other,
        one other text node,
        at,
        own,
        others,
        new,
        bytes_eq-Decides other text,
        not_empty (get_or children node []) (child letter (length children)),
      )

  -- and nothing is noted at the new node
  pub more_places : (places : List (Option ℕ)) → length places ≡ length children → (other : List ℕ)
      → place_at (places ++ None ∷ []) (node_of more other) ≡ place_at places (node_of children other)
  more_places places as_many other =
      grind (
        arith,
        stands other,
        default_more places None,
        get_or_past places (length children) None,
      )

  -- the nodes of one letter are as before, but for that of this letter at the first
  pub more_first : (l : ℕ) (n : Option ℕ) → n ≡ node_of children (l ∷ [])
      → cond (node == 0 && l == letter) (Some (length children)) n ≡ node_of more (l ∷ [])
  more_first l n had = grind (arith, had, same (Some 0) l, made, Decides-eqb node 0, Decides-eqb l letter)

-- The nodes of a text

-- the children of a node, and its place
abbrev pub kids : Node → List Child
kids node = node.children.items

abbrev pub place : Node → Option ℕ
place node = node.place

-- as many have children as places
as_many : (nodes : List Node) → length (map place nodes) ≡ length (map kids nodes)
as_many nodes = length-map nodes place ∙ sym (length-map nodes kids)

-- what a node has, where it is read
pub node_children : (nodes : List Node) (node : ℕ) (there : Node) → node < length nodes
    → there ≡ get_or nodes node there → get_or (map kids nodes) node [] ≡ kids there
node_children nodes node there lt e = get_or-map kids nodes node there [] lt ∙ ap kids (sym e)

-- where a place is noted at a node, the children stay
pub placed_children : (nodes : List Node) (node : ℕ) (there noted : Node) → node < length nodes
    → there ≡ get_or nodes node there → kids noted ≡ kids there
    → map kids (set nodes node noted) ≡ map kids nodes
placed_children nodes node there noted lt e stay =
    grind (
      arith,
      map-set kids nodes node noted,
      node_children nodes node there,
      set-get_or (map kids nodes) node [],
    )

-- a node is added behind a letter of another
module _ (before nodes : List Node) (node letter : ℕ) (new there changed : Node) (pushed : nodes ≡ before ++ new ∷ [])
    (lt : node < length before) (read : there ≡ get_or nodes node there) where
  pub added_children : new.children.items ≡ []
      → changed.children.items ≡ there.children.items ++ child letter (length before) ∷ []
      → map kids (set nodes node changed) ≡ with_child (map kids before) node letter
  added_children none more =
      grind (
        arith,
        map-set kids nodes node changed,
        map-append kids before (new ∷ []),
        default_more (map kids before) [] node,
        node_children nodes node there,
        length-map before kids,
        length-append before (new ∷ []),
      )

  pub added_places : new.place ≡ None → changed.place ≡ there.place
      → map place (set nodes node changed) ≡ map place before ++ None ∷ []
  added_places none stays =
      grind (
        arith,
        map-set place nodes node changed,
        map-append place before (new ∷ []),
        get_or-map place nodes node there None,
        set-get_or (map place nodes) node None,
        length-append before (new ∷ []),
      )

-- none is made before its first letter
pub none_made : (trie : RuleTrie) → IsTrie trie → HasNode trie trie [] 0
none_made trie is = record {
  trie = is;
  node_is = refl;
  places = λ other. refl;
  begins = λ other. grind (arith, nat_tests);
}

-- the node of a text with a letter more is made
pub child_made : (first before after : RuleTrie) (text : List ℕ) (node letter child : ℕ)
    → HasNode first before text node → MakesChild before after node letter child
    → HasNode first after (text ++ letter ∷ []) child
child_made first before after text node letter child has (inl (is, stays)) =
    rw stays (record {
      trie = has.trie;
      node_is =
          fold_push (next_node (children_of before)) (Some 0) text letter
          ∙ ap (λ n. next_node (children_of before) n letter) has.node_is ∙ is;
      places = has.places;
      begins = goes_on;
    })
  where
    goes_on : (other : List ℕ)
        → is_beginning before other ≡ (is_beginning first other || goes_past other (text ++ letter ∷ []))
    goes_on other =
        grind (
          arith,
          has.begins other,
          has.node_is,
          bytes_eq-Decides other text,
          past_more other text letter,
          leads (get_or (children_of before) node []) letter child is,
        )
child_made first before after text node letter child has (inr (none, adds)) =
    let children = children_of before in
    let within = has.trie.within in
    let one = has.trie.one in
    let at = has.node_is in
    record {
      trie = record {
        within = rw adds.children (more_within children text node letter within one at none);
        one = rw adds.children (more_one children text node letter within one at none);
        first = λ l. adds.first l ∙ rw (adds.children, adds.number) (more_first children text node letter within one at
            none l (get_or before.first.value l None) (has.trie.first l));
      };
      node_is = rw (adds.children, adds.number) (more_reached children text node letter within one at none);
      places = λ other. rw (adds.children, adds.places) (more_places children text node letter within one at none
          (places_of before) (as_many before.nodes.items) other ∙ has.places other);
      begins = λ other.
          let more = more_begins children text node letter within one at none other in
          rw adds.children (grind (arith, more, has.begins other, past_more other text letter));
    }

-- Rules

-- a trie whose one node has nothing holds no rules
pub holds_none : (trie : RuleTrie) → children_of trie ≡ [] ∷ [] → places_of trie ≡ None ∷ []
    → ((letter : ℕ) → get_or trie.first.value letter None ≡ None) → IsRuleTrie [] trie
holds_none trie no_children no_places no_first = record {
  differ = refl;
  is_trie = record {
    within = rw no_children there;
    one = rw no_children same;
    first = rw no_children no_first;
  };
  places = rw (no_children, no_places) noted;
  begins = rw no_children goes_on;
}
  where
    nowhere : (c : ℕ) (text : List ℕ) → node_of ([] ∷ []) (c ∷ text) ≡ None
    nowhere c text = fold_stays (next_node ([] ∷ [])) None (λ _. refl) text

    there : (text : List ℕ) (node : ℕ) → node_of ([] ∷ []) text ≡ Some node → node < length {A = List Child} ([] ∷ [])
    there [] node e = let zero : 0 ≡ node = cc in omega (arith, zero)
    there (c ∷ text) node e = let none = nowhere c text in cc

    same : (text other : List ℕ) (node : ℕ) → node_of ([] ∷ []) text ≡ Some node → node_of ([] ∷ []) other ≡ Some node
        → text ≡ other
    same [] [] node p q = refl
    same [] (c ∷ other) node p q = let none = nowhere c other in cc
    same (c ∷ text) other node p q = let none = nowhere c text in cc

    noted : (text : List ℕ) → place_at (None ∷ []) (node_of ([] ∷ []) text)
        ≡ position (λ (r : Rule). bytes_eq r.input text) []
    noted [] = refl
    noted (c ∷ text) = ap (place_at (None ∷ [])) (nowhere c text)

    goes_on : (text : List ℕ) → goes_on_at ([] ∷ []) (node_of ([] ∷ []) text) ≡ begins_input [] text
    goes_on [] = refl
    goes_on (c ∷ text) = ap (goes_on_at ([] ∷ [])) (nowhere c text)

module _ {X : Type 0} (p : X → Bool) where
  most : (xs : List X) → position_or_len p xs ≤ length xs
  most [] = omega arith
  most (x ∷ xs) = grind (arith, most xs)

  -- the place of the first that passes, with one more behind
  position_more : (xs : List X) (x : X)
      → position p (xs ++ x ∷ []) ≡ option_or (position p xs) (cond (p x) (Some (length xs)) None)
  position_more xs x = grind (arith, nat_tests, position_or_len_push p xs x, most xs, length-append xs (x ∷ []))

  -- there is none where none is found, and what is found stands there
  no_place : (xs : List X) → find p xs ≡ None → position p xs ≡ None
  no_place xs e = grind (arith, nat_tests, past xs e)
    where
      past : (xs : List X) → find p xs ≡ None → position_or_len p xs ≡ length xs
      past [] e = refl
      past (x ∷ xs) e = grind (arith, past xs)

  pub none_there : (xs : List X) → None ≡ position p xs → find p xs ≡ None
  none_there xs e = grind (arith, nat_tests, find_at p xs, slice_get_past xs (position_or_len p xs))

  pub one_there : (xs : List X) (place : ℕ) → Some place ≡ position p xs
      → (place < length xs) × (find p xs ≡ slice_get xs place)
  one_there xs place e = (grind (arith, nat_tests), grind (arith, nat_tests, find_at p xs))

-- the place of a rule is noted at the node of its input
pub rule_noted : (rules : List Rule) (rule : Rule) (before made after : RuleTrie) (node : ℕ) → IsRuleTrie rules before
    → rule_of rules rule.input ≡ None → HasNode before made rule.input node → children_of after ≡ children_of made
    → places_of after ≡ set (places_of made) node (Some (length rules)) → after.first.value ≡ made.first.value
    → IsRuleTrie (rules ++ rule ∷ []) after
rule_noted rules rule before made after node is new has same_children same_places same_first = record {
  differ = differ_with rules rule ∙ rw (is.differ, new) refl;
  is_trie = record {
    within = rw same_children has.trie.within;
    one = rw same_children has.trie.one;
    first = rw (same_children, same_first) has.trie.first;
  };
  places = λ text. rw (same_children, same_places) (noted text
      ∙ sym (position_more (λ (r : Rule). bytes_eq r.input text) rules rule));
  begins = λ text.
      let more = list_any-append (λ (r : Rule). goes_past text r.input) rules (rule ∷ []) in
      rw same_children (grind (arith, more, has.begins text, is.begins text));
}
  where
    noted : (text : List ℕ)
        → place_at (set (places_of made) node (Some (length rules))) (node_of (children_of made) text)
        ≡ option_or (position (λ (r : Rule). bytes_eq r.input text) rules)
        (cond (bytes_eq rule.input text) (Some (length rules)) None)
    noted text =
        grind (
          arith,
          has.places text ∙ is.places text,
          has.trie.one rule.input text node has.node_is,
          has.trie.within rule.input node has.node_is,
          has.node_is,
          as_many made.nodes.items,
          bytes_eq-Decides rule.input text,
          no_place (λ (r : Rule). bytes_eq r.input rule.input) rules new,
          get_or-set_same (places_of made) node (Some (length rules)) None,
          get_or-set_other (places_of made) node,
        )

-- the rule at a place that is that of a text is the text's rule
pub rule_there : (rules : List Rule) (text : List ℕ) (place : Option ℕ)
    → place ≡ position (λ (r : Rule). bytes_eq r.input text) rules
    → option_and_then (slice_get rules) place ≡ rule_of rules text
rule_there rules text None e = sym (none_there (λ (r : Rule). bytes_eq r.input text) rules e)
rule_there rules text (Some place) e = sym (one_there (λ (r : Rule). bytes_eq r.input text) rules place e).1

pub place_within : (rules : List Rule) (text : List ℕ) (place : Option ℕ)
    → place ≡ position (λ (r : Rule). bytes_eq r.input text) rules → IfSome place (λ p. p < length rules)
place_within rules text None e = tt
place_within rules text (Some place) e = (one_there (λ (r : Rule). bytes_eq r.input text) rules place e).0

-- what is told of a text by its node
module _ (rules : List Rule) (trie : RuleTrie) (text : List ℕ) (is : IsRuleTrie rules trie) where
  pub node_within : (node : Option ℕ) → node ≡ node_of (children_of trie) text
      → IfSome node (λ n. n < length (children_of trie))
  node_within None at = tt
  node_within (Some node) at = is.is_trie.within text node (sym at)

  pub place_told : (node : Option ℕ) → node ≡ node_of (children_of trie) text
      → IfSome (place_at (places_of trie) node) (λ p. p < length rules)
  place_told node at =
      place_within rules text (place_at (places_of trie) node) (ap (place_at (places_of trie)) at ∙ is.places text)

  pub rule_told : (node : Option ℕ) → node ≡ node_of (children_of trie) text
      → option_and_then (slice_get rules) (place_at (places_of trie) node) ≡ rule_of rules text
  rule_told node at =
      rule_there rules text (place_at (places_of trie) node) (ap (place_at (places_of trie)) at ∙ is.places text)

  pub beginning_told : (node : Option ℕ) → node ≡ node_of (children_of trie) text
      → goes_on_at (children_of trie) node ≡ begins_input rules text
  beginning_told node at = ap (goes_on_at (children_of trie)) at ∙ is.begins text

-- the place that is noted at a node that is there
pub place_there : (nodes : List Node) (node : ℕ) (there : Node) → node < length nodes
    → there ≡ get_or nodes node there → place_at (map place nodes) (Some node) ≡ place there
place_there nodes node there lt read = get_or-map place nodes node there None lt ∙ ap place (sym read)
