-- Scripts: what each line says, and which line is the first bad one.
use Rattle.std.specs.Prelude.{◌≡◌, ◌⊎◌, ◌≤◌, ◌+◌, ℕ, Bool, true, false, ◌==◌, ◌||◌, nat_eq, Option, Some, None, List}
use Rattle.std.specs.Prelude.{[], ◌∷◌, ◌++◌, length, drop, map, ⊤, Contains}
use Rattle.std.specs.Fmt.{decimal}
use Rattle.std.specs.List.{filter, list_all, list_any}
use Rattle.skk_text.specs.KeyText.{spelled, AreKeys}
use Rattle.skk_text.specs.Lines.{lines_of}
use Rattle.skk_text.specs.Characters.{code, carriage_return}
use Rattle.key_scripts.specs.declared.line.Line.{Line}
use Rattle.key_scripts.specs.declared.line.Line.TheVariants.{Keys, Opening}

-- the most bytes of a script
abbrev pub script_limit : ℕ
script_limit = 4194304

-- a session's number is from 1 to 64
abbrev pub IsSession : ℕ → Type 0
IsSession number = (1 ≤ number) × (number ≤ 64)

-- a typist's number, or a book's, is at most 65,535
abbrev pub IsTypist : ℕ → Type 0
IsTypist number = number ≤ 65535

-- whether a CR is somewhere in a text
abbrev pub has_return : List ℕ → Bool
has_return text = list_any (λ byte. nat_eq byte carriage_return) text

-- what a text says: nothing, where it is skipped, being empty or a comment, which has no CR; keys, where it is a
-- session, `:` and their spelling; or an opening, where it is a session, `=`, a typist, `,` and a book,
-- which is 0 or the typist's
abbrev pub Spells : List ℕ → Option Line → Type 0
Spells text None = (text ≡ []) ⊎ ((comment : List ℕ) × (text ≡ code "#" ∷ comment) × (has_return comment ≡ false))
Spells text (Some (Keys session ks)) =
    IsSession session × AreKeys ks × (text ≡ decimal session ++ code ":" ∷ spelled ks)
Spells text (Some (Opening session typist book)) =
    IsSession session × IsTypist typist × ((book ≡ 0) ⊎ (book ≡ typist))
    × (text ≡ decimal session ++ code "=" ∷ decimal typist ++ code "," ∷ decimal book)

-- what stands behind a session's number, a byte and the rest, says a line of that session
abbrev pub Follows : ℕ → ℕ → List ℕ → Line → Type 0
Follows number mark rest (Keys session ks) = (session ≡ number) × (mark ≡ code ":") × AreKeys ks × (rest ≡ spelled ks)
Follows number mark rest (Opening session typist book) =
    (session ≡ number) × (mark ≡ code "=") × IsTypist typist × ((book ≡ 0) ⊎ (book ≡ typist))
    × (rest ≡ decimal typist ++ code "," ∷ decimal book)

-- the session that a line names
abbrev pub session_of : Line → ℕ
session_of (Keys session ks) = session
session_of (Opening session typist book) = session

-- what a text says may stand behind these lines: it opens no session that one of them names
abbrev pub MayFollow : List Line → Option Line → Type 0
MayFollow before None = ⊤
MayFollow before (Some (Keys session ks)) = ⊤
MayFollow before (Some (Opening session typist book)) = ¬ Contains (map session_of before) session

-- these lines, and the one that a text says, if it says one
abbrev pub with_said : List Line → Option Line → List Line
with_said before None = before
with_said before (Some line) = before ++ line ∷ []

-- texts behind these lines make them those: one after another is skipped, or says a line that may follow
abbrev pub Says : List Line → List (List ℕ) → List Line → Type 0
Says before [] lines = lines ≡ before
Says before (text ∷ texts) lines =
    (said : Option Line) × Spells text said × MayFollow before said × Says (with_said before said) texts lines

-- bytes are a script of these lines: they are not too many, and their texts say the lines
abbrev pub IsScript : List ℕ → List Line → Type 0
IsScript bytes lines = (length bytes ≤ script_limit) × Says [] (lines_of bytes) lines

-- of the texts the first that is no line has this number, counted from 1
pub record IsFirstBad (texts : List (List ℕ)) (number : ℕ) : Type 0 where
  pub before : List (List ℕ)
  pub bad : List ℕ
  pub behind : List (List ℕ)
  pub lines : List Line
  pub parts : texts ≡ before ++ bad ∷ behind
  pub said : Says [] before lines
  pub none : (said : Option Line) → Spells bad said → MayFollow lines said → ⊥
  pub place : number ≡ length before + 1

-- whether the book of an opening line is the shared one, or its typist's
abbrev pub opens_well : Line → Bool
opens_well (Keys session ks) = true
opens_well (Opening session typist book) = book == 0 || book == typist

-- a line gives keys
abbrev pub gives_keys : Line → Bool
gives_keys (Keys session ks) = true
gives_keys (Opening session typist book) = false

-- the lines of the session of a number
abbrev pub own_lines : ℕ → List Line → List Line
own_lines number lines = filter (λ line. session_of line == number) lines

-- a line that opens a session stands in front of all others of that session
abbrev pub OpenFirst : List Line → Type 0
OpenFirst lines = (number : ℕ) → list_all gives_keys (drop 1 (own_lines number lines)) ≡ true
