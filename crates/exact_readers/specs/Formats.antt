-- Formats: what spells a value, and what is read of it from the front of tokens. Large ones are made of small ones.
use Rattle.std.specs.Prelude.{ℕ, ◌≡◌, ◌==◌, ◌⊎◌, if◌then◌else◌, Option, None, Some, List, [], ◌∷◌, ◌++◌}
use Rattle.std.specs.Option.{option_map}

-- a way to write values as tokens: characters, bytes or texts
pub record Format (X A : Type 0) : Type 1 where
  -- the tokens spell the value
  pub Spells : A → List X → Type 0
  -- the value that the front of the tokens spells, and what stands behind that
  pub step : List X → Option (A × List X)

-- what a function makes of a value that is there
abbrev pub then_at : {X Y : Type 0} → Option X → (X → Option Y) → Option Y
then_at None f = None
then_at (Some x) f = f x

-- the first value that is there
abbrev pub or_else : {X : Type 0} → Option X → Option X → Option X
or_else None later = later
or_else (Some x) later = Some x

-- One token

-- the value of the first token
abbrev pub first_by : {X A : Type 0} → (X → Option A) → List X → Option (A × List X)
first_by f [] = None
first_by f (x ∷ rest) = option_map (λ a. (a, rest)) (f x)

-- one token that stands for a value, which a function finds
abbrev pub one_by : {X A : Type 0} → (A → X → Type 0) → (X → Option A) → Format X A
one_by R f = record {
  Spells = λ a tokens. (x : _) × R a x × (tokens ≡ x ∷ []);
  step = first_by f;
}

-- one token, and the value that a function makes of it
abbrev pub one_as : {X A : Type 0} → (X → Option A) → Format X A
one_as f = one_by (λ a x. f x ≡ Some a) f

-- Words around values

-- what stands behind a word, where the tokens begin with it
abbrev pub past : List ℕ → List ℕ → Option (List ℕ)
past [] tokens = Some tokens
past (c ∷ word) [] = None
past (c ∷ word) (d ∷ tokens) = if d == c then past word tokens else None

-- a word alone
abbrev pub literal : List ℕ → Format ℕ (List ℕ)
literal word = record {
  Spells = λ a tokens. (a ≡ word) × (tokens ≡ word);
  step = λ tokens. option_map (λ rest. (word, rest)) (past word tokens);
}

-- a value behind a word
abbrev pub behind : {A : Type 0} → List ℕ → Format ℕ A → Format ℕ A
behind word F = record {
  Spells = λ a tokens. (piece : List ℕ) × F.Spells a piece × (tokens ≡ word ++ piece);
  step = λ tokens. then_at (past word tokens) F.step;
}

-- what was read, where a word stands behind it
abbrev pub and_past : {A : Type 0} → List ℕ → A × List ℕ → Option (A × List ℕ)
and_past word read = option_map (λ rest. (read.0, rest)) (past word read.1)

-- a value before a word
abbrev pub before : {A : Type 0} → Format ℕ A → List ℕ → Format ℕ A
before F word = record {
  Spells = λ a tokens. (piece : List ℕ) × F.Spells a piece × (tokens ≡ piece ++ word);
  step = λ tokens. then_at (F.step tokens) (and_past word);
}

-- Two formats

-- what was read, with what is read behind it
abbrev pub paired : {X A B : Type 0} → (List X → Option (B × List X)) → A × List X → Option ((A × B) × List X)
paired step read = option_map (λ later. ((read.0, later.0), later.1)) (step read.1)

-- a value, and behind it another
abbrev pub both : {X A B : Type 0} → Format X A → Format X B → Format X (A × B)
both F G = record {
  Spells = λ pair tokens. (front back : List _) × F.Spells pair.0 front × G.Spells pair.1 back
      × (tokens ≡ front ++ back);
  step = λ tokens. then_at (F.step tokens) (paired G.step);
}

-- a value in one format or in another
abbrev pub either : {X A : Type 0} → Format X A → Format X A → Format X A
either F G = record {
  Spells = λ a tokens. F.Spells a tokens ⊎ G.Spells a tokens;
  step = λ tokens. or_else (F.step tokens) (G.step tokens);
}

-- Values of values

-- what a function makes of a value
abbrev pub mapped : {X A B : Type 0} → (A → B) → Format X A → Format X B
mapped f F = record {
  Spells = λ b tokens. (a : _) × F.Spells a tokens × (b ≡ f a);
  step = λ tokens. option_map (λ read. (f read.0, read.1)) (F.step tokens);
}

-- what was read, where a function makes something of its value
abbrev pub if_made : {X A B : Type 0} → (A → Option B) → A × List X → Option (B × List X)
if_made f read = option_map (λ b. (b, read.1)) (f read.0)

-- what a function makes of a value, where it makes something of it
abbrev pub checked : {X A B : Type 0} → (A → Option B) → Format X A → Format X B
checked f F = record {
  Spells = λ b tokens. (a : _) × F.Spells a tokens × (f a ≡ Some b);
  step = λ tokens. then_at (F.step tokens) (if_made f);
}

-- Many values

-- the tokens spell the values, one behind another
abbrev pub SpellsMany : {X A : Type 0} → (A → List X → Type 0) → List A → List X → Type 0
SpellsMany R [] tokens = tokens ≡ []
SpellsMany R (a ∷ more) tokens =
    (front back : List _) × R a front × SpellsMany R more back × (tokens ≡ front ++ back)

-- what a step took, and what is taken later of what it left
abbrev pub and_later : {X A : Type 0} → Option (A × List X) → List X → (List X → List A × List X) → List A × List X
and_later None tokens later = ([], tokens)
and_later (Some (a, rest)) tokens later = let more = later rest in (a ∷ more.0, more.1)

-- what a step takes time and again, at most as often as the first list is long, and what it leaves
abbrev pub taken_within : {X A : Type 0} → (List X → Option (A × List X)) → List X → List X → List A × List X
taken_within step [] tokens = ([], tokens)
taken_within step (turn ∷ turns) tokens = and_later (step tokens) tokens (taken_within step turns)

-- what a step takes until it takes no more, and what it leaves
unfoldable pub taken : {X A : Type 0} → (List X → Option (A × List X)) → List X → List A × List X
taken step tokens = taken_within step tokens tokens

-- what was read, where something is read behind it too
abbrev pub to_end : {X A B : Type 0} → (List X → Option (B × List X)) → A × List X → Option (A × List X)
to_end end read = option_map (λ later. (read.0, later.1)) (end read.1)

-- values, one behind another, and then an end, with which no value begins
abbrev pub ended_by : {X A B : Type 0} → Format X B → Format X A → Format X (List A)
ended_by E F = record {
  Spells = λ values tokens. (front back : List _) × (b : _) × SpellsMany F.Spells values front × E.Spells b back
      × (tokens ≡ front ++ back);
  step = λ tokens. to_end E.step (taken F.step tokens);
}

-- Whole texts

-- what was read, where nothing stands behind it
abbrev pub if_whole : {X A : Type 0} → A × List X → Option A
if_whole (a, []) = Some a
if_whole (a, x ∷ rest) = None

-- the value that is read of all tokens
abbrev pub whole : {X A : Type 0} → Format X A → List X → Option A
whole F tokens = then_at (F.step tokens) if_whole

-- the values that are read of all tokens, one behind another
abbrev pub all : {X A : Type 0} → Format X A → List X → Option (List A)
all F tokens = if_whole (taken F.step tokens)

-- one token that is a text, all of which spells the value
abbrev pub one_whole : {X A : Type 0} → Format X A → Format (List X) A
one_whole F = one_by F.Spells (whole F)
