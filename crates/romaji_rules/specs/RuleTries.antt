-- The inputs of rules as a trie, in which a text is looked for letter by letter.
use Rattle.std.specs.Prelude.{◌≡◌, ℕ, ◌<◌, ◌==◌, ◌&&◌, ◌||◌, ◌⊎◌, Bool, true, false, not, nat_eq, nat_lt, Option, None}
use Rattle.std.specs.Prelude.{Some, List, [], ◌∷◌, ◌++◌, length, map, find, get_or, if◌then◌else◌}
use Rattle.std.specs.List.{fold, position, starts_with}
use Rattle.std.specs.Option.{option_map}
use Rattle.std.specs.Str.{bytes_eq}
use Rattle.std.proofs.Math.ListN.{set}
use Rattle.skk_text.specs.Lists.{is_empty}
use Rattle.romaji_rules.specs.declared.rule.Rule.{Rule}
use Rattle.romaji_rules.specs.declared.rule_trie.Child.{Child}
use Rattle.romaji_rules.specs.declared.rule_trie.RuleTrie.{RuleTrie}
use Rattle.romaji_rules.specs.Fitting.{inputs_differ}
use Rattle.romaji_rules.specs.Typed.{begins_input}

-- Walking, where each node has these children

-- a letter and the node that it leads to
abbrev pub child : ℕ → ℕ → Child
child letter node = record { letter = letter; node = node }

-- the node behind a letter
abbrev pub child_by : List Child → ℕ → Option ℕ
child_by children letter = option_map (λ c. c.node) (find (λ c. c.letter == letter) children)

-- the node of a text with a letter behind it, by that of the text
abbrev pub next_node : List (List Child) → Option ℕ → ℕ → Option ℕ
next_node children None letter = None
next_node children (Some node) letter = child_by (get_or children node []) letter

-- the node of a text, if it has one; that of the empty text is the first
abbrev pub node_of : List (List Child) → List ℕ → Option ℕ
node_of children text = fold (next_node children) (Some 0) text

-- whether a node goes on by some letter
abbrev pub goes_on_at : List (List Child) → Option ℕ → Bool
goes_on_at children None = false
goes_on_at children (Some node) = not (is_empty (get_or children node []))

-- what is noted at a node, if anything is
abbrev pub place_at : List (Option ℕ) → Option ℕ → Option ℕ
place_at places None = None
place_at places (Some node) = get_or places node None

-- Tries

-- the children of each node
abbrev pub children_of : RuleTrie → List (List Child)
children_of trie = map (λ node. node.children.items) trie.nodes.items

-- the places that are noted at the nodes
abbrev pub places_of : RuleTrie → List (Option ℕ)
places_of trie = map (λ node. node.place) trie.nodes.items

-- the place that is noted at the node of a text
abbrev pub place_of : RuleTrie → List ℕ → Option ℕ
place_of trie text = place_at (places_of trie) (node_of (children_of trie) text)

-- whether the node of a text goes on
abbrev pub is_beginning : RuleTrie → List ℕ → Bool
is_beginning trie text = goes_on_at (children_of trie) (node_of (children_of trie) text)

-- each node that has a text is there and has no other, and those of one letter are noted beside it
pub record IsTrie (trie : RuleTrie) : Type 0 where
  pub within : (text : List ℕ) (node : ℕ) → node_of (children_of trie) text ≡ Some node
      → node < length (children_of trie)
  pub one : (text other : List ℕ) (node : ℕ) → node_of (children_of trie) text ≡ Some node
      → node_of (children_of trie) other ≡ Some node → text ≡ other
  pub first : (letter : ℕ) → get_or trie.first.value letter None ≡ node_of (children_of trie) (letter ∷ [])

-- the trie holds just these rules, of which no two have one input: what is noted at a text is the place of the rule
-- whose input it is, and it goes on where it begins an input
pub record IsRuleTrie (rules : List Rule) (trie : RuleTrie) : Type 0 where
  pub differ : inputs_differ rules ≡ true
  pub is_trie : IsTrie trie
  pub places : (text : List ℕ) → place_of trie text ≡ position (λ rule. bytes_eq rule.input text) rules
  pub begins : (text : List ℕ) → is_beginning trie text ≡ begins_input rules text

-- Nodes more

-- the children with those of a node more, behind a letter that follows on another
abbrev pub with_child : List (List Child) → ℕ → ℕ → List (List Child)
with_child children node letter =
    set (children ++ [] ∷ []) node (get_or children node [] ++ child letter (length children) ∷ [])

-- a node more, which has nothing, stands behind a letter of another
pub record AddsChild (before after : RuleTrie) (node letter child : ℕ) : Type 0 where
  pub number : child ≡ length (children_of before)
  pub children : children_of after ≡ with_child (children_of before) node letter
  pub places : places_of after ≡ places_of before ++ None ∷ []
  pub first : (other : ℕ) → get_or after.first.value other None
      ≡ (if node == 0 && other == letter then Some child else get_or before.first.value other None)

-- the node behind a letter of another, which is added where it is missing
abbrev pub MakesChild : RuleTrie → RuleTrie → ℕ → ℕ → ℕ → Type 0
MakesChild before after node letter child =
    (child_by (get_or (children_of before) node []) letter ≡ Some child) × (after ≡ before)
    ⊎ ((child_by (get_or (children_of before) node []) letter ≡ None) × AddsChild before after node letter child)

-- whether the whole begins with a text and goes on
abbrev pub goes_past : List ℕ → List ℕ → Bool
goes_past text whole = nat_lt (length text) (length whole) && starts_with nat_eq whole text

-- a text has this node: nothing is noted at what more there is, and what begins the text goes on
pub record HasNode (before after : RuleTrie) (text : List ℕ) (node : ℕ) : Type 0 where
  pub trie : IsTrie after
  pub node_is : node_of (children_of after) text ≡ Some node
  pub places : (other : List ℕ) → place_of after other ≡ place_of before other
  pub begins : (other : List ℕ) → is_beginning after other ≡ (is_beginning before other || goes_past other text)
