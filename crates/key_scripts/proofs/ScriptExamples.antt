-- What the lines of a script say, at small examples, each worked out by hand.
use Rattle.std.proofs.Common.{◌≡◌, ◌*◌, true, false, None, Some, [], ◌∷◌, ◌++◌, codes, map, replicate}
use Rattle.std.proofs.Common.{inl, inr, refl, ap, arith, lit≤, Bool, ◌==◌, cond, drop}
use Rattle.std.specs.Fmt.{digits}
use Rattle.std.specs.List.{list_all}
use Rattle.skk_text.specs.Lines.{lines_of}
use Rattle.key_scripts.specs.Marks.{Mark}
use Rattle.key_scripts.specs.Script.{Spells, Follows, MayFollow, has_return, IsSession, IsTypist, script_limit}
use Rattle.key_scripts.specs.Script.{session_of, with_said, opens_well, gives_keys, own_lines, OpenFirst}
use Rattle.key_scripts.specs.declared.line.Line.TheVariants.{Keys, Opening}
use Rattle.skk_text.specs.declared.key.Key.TheVariants.{Tab}

-- an empty text and a comment are skipped
skipped : Spells [] None × Spells (0x23 ∷ []) None × Spells (0x23 ∷ 0x61 ∷ []) None
skipped = (inl refl, inr ([], refl, refl), inr (0x61 ∷ [], refl, refl))

-- no CR is part of a comment
return_in_comment : ¬ Spells (0x23 ∷ 0x61 ∷ 13 ∷ []) None
return_in_comment (inl e) = cc (e)
return_in_comment (inr (comment, is, without)) =
    let same : comment ≡ 0x61 ∷ 13 ∷ [] = cc (is) in
    let with : has_return comment ≡ true = ap has_return same in
    cc (with, without)

-- an opening has the shared book or its typist's
openings : Spells (codes "1=5,0") (Some (Opening 1 5 0)) × Spells (codes "64=5,5") (Some (Opening 64 5 5))
    × Spells (codes "1=0,0") (Some (Opening 1 0 0))
unfolding digits
openings = (
  ((lit≤ tt, lit≤ tt), lit≤ tt, inl refl, refl),
  ((lit≤ tt, lit≤ tt), lit≤ tt, inr refl, refl),
  ((lit≤ tt, lit≤ tt), lit≤ tt, inl refl, refl),
)

other_books : ¬ Spells (codes "1=5,1") (Some (Opening 1 5 1))
other_books (session, typist, inl shared, is) = omega (arith, shared)
other_books (session, typist, inr own, is) = omega (arith, own)

openings_behind : Follows 1 0x3D (codes "5,0") (Opening 1 5 0) × Follows 1 0x3D (codes "5,5") (Opening 1 5 5)
unfolding digits
openings_behind = ((refl, refl, lit≤ tt, inl refl, refl), (refl, refl, lit≤ tt, inr refl, refl))

other_books_behind : ¬ Follows 1 0x3D (codes "5,1") (Opening 1 5 1)
other_books_behind (session, mark, typist, inl shared, is) = omega (arith, shared)
other_books_behind (session, mark, typist, inr own, is) = omega (arith, own)

-- keys may follow any lines, and an opening those that do not name its session
lines_behind : MayFollow (Keys 1 [] ∷ []) (Some (Keys 1 [])) × MayFollow (Keys 1 [] ∷ []) None
    × (¬ MayFollow (Keys 1 [] ∷ []) (Some (Opening 1 5 0)))
    × (¬ MayFollow (Opening 2 5 0 ∷ Keys 1 [] ∷ []) (Some (Opening 1 5 0)))
lines_behind = (tt, tt, λ new. new (0, lit≤ tt, refl), λ new. new (1, lit≤ tt, refl))

-- the limit: 4 MiB of a script
limit : script_limit ≡ 4 * 1024 * 1024
limit = refl

-- scripts cut into lines
script_lines : map lines_of ([] ∷ (10 ∷ []) ∷ codes "a" ∷ (codes "ab" ++ 10 ∷ [])
    ∷ (10 ∷ 10 ∷ codes "a" ++ 10 ∷ codes "b") ∷ (13 ∷ 10 ∷ []) ∷ [])
    ≡ [] ∷ ([] ∷ []) ∷ (codes "a" ∷ []) ∷ (codes "ab" ∷ []) ∷ ([] ∷ [] ∷ codes "a" ∷ codes "b" ∷ [])
    ∷ ((13 ∷ []) ∷ []) ∷ []
script_lines = refl

-- numbers at both sides of their bounds
numbers : IsSession 1 × IsSession 64 × (¬ IsSession 0) × (¬ IsSession 65) × IsTypist 65535 × (¬ IsTypist 65536)
numbers = (
  (lit≤ tt, lit≤ tt),
  (lit≤ tt, lit≤ tt),
  λ is. omega (arith, is),
  λ is. omega (arith, is),
  lit≤ tt,
  λ is. omega (arith, is),
)

-- which books may be, and which session is named, by a line of each kind; and a line more
books_of_openings : map opens_well (Keys 1 [] ∷ Opening 1 7 0 ∷ Opening 1 7 7 ∷ Opening 1 7 6 ∷ Opening 1 0 0 ∷ [])
    ≡ true ∷ true ∷ true ∷ false ∷ true ∷ []
books_of_openings = refl

named_sessions : map session_of (Keys 4 [] ∷ Opening 5 6 0 ∷ []) ≡ 4 ∷ 5 ∷ []
named_sessions = refl

lines_with_said : map (with_said (Keys 4 [] ∷ [])) (None ∷ Some (Opening 5 6 0) ∷ [])
    ≡ (Keys 4 [] ∷ []) ∷ (Keys 4 [] ∷ Opening 5 6 0 ∷ []) ∷ []
lines_with_said = refl

-- the greatest session is marked where a line names it
last_session_unmarked : ¬ Mark (replicate 65 false) (Keys 64 [] ∷ [])
last_session_unmarked marked = cc ((marked 64 (lit≤ tt)).1 (0, lit≤ tt, refl))

-- the lines of a session, in their order
own : map (λ number. own_lines number (Opening 2 5 0 ∷ Keys 1 [] ∷ Keys 2 [] ∷ Keys 1 (Tab ∷ []) ∷ [])) (1 ∷ 2 ∷ 3 ∷ [])
    ≡ (Keys 1 [] ∷ Keys 1 (Tab ∷ []) ∷ []) ∷ (Opening 2 5 0 ∷ Keys 2 [] ∷ []) ∷ [] ∷ []
own = refl

-- a line that opens a session stands in front of its others, and not behind one
opened_first : OpenFirst (Opening 1 5 0 ∷ Keys 1 [] ∷ [])
opened_first number = by (1 == number)
  where
    by : (b : Bool) → list_all gives_keys (drop 1 (cond b (Opening 1 5 0 ∷ cond b (Keys 1 [] ∷ []) [])
        (cond b (Keys 1 [] ∷ []) []))) ≡ true
    by true = refl
    by false = refl

opened_behind : (¬ OpenFirst (Keys 1 [] ∷ Opening 1 5 0 ∷ []))
    × (¬ OpenFirst (Opening 1 5 0 ∷ Keys 2 [] ∷ Opening 1 5 5 ∷ []))
opened_behind = (λ first. cc (first 1), λ first. cc (first 1))
