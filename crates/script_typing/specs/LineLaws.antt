-- What the playing of a line leads to, whatever lines stand behind it.
use Rattle.std.proofs.Common.{◌≡◌, ◌∙◌, ◌<◌, ◌≤◌, ◌+◌, ap, refl, sym, ℕ, Result, Ok, Err, List, [], ◌∷◌, ◌++◌}
use Rattle.std.proofs.Common.{IsErrAnd, append-nil, length, drop, get_or, rules}
use Rattle.std.proofs.lemmas.List.{at_drop_more, drop_all}
use Rattle.std.specs.Bool.{⊤}
use Rattle.romaji_rules.specs.declared.rule.Rule.{Rule}
use Rattle.skk_text.specs.declared.memory.Memory.{Memory}
use Rattle.skk_calls.specs.InteractionLaws.{begins-followed, begins-leads, comes-begins, comes-followed}
use Rattle.skk_calls.specs.Interactions.{Interaction, prints, followed_by, Dialog}
use Rattle.skk_calls.specs.Runs.{Runs, at, anywhere}
use Rattle.skk_calls.specs.RunLaws.{runs-nothing, runs-print, runs-from, runs-to, runs-begun, runs-along}
use Rattle.skk_calls.specs.RunLaws.{runs-then}
use Rattle.key_scripts.specs.Script.{session_of}
use Rattle.key_scripts.specs.declared.line.Line.{Line}
use Rattle.key_scripts.specs.declared.line.Line.TheVariants.{Keys, Opening}
use Rattle.session_machine.specs.Said.{Says, Spoken}
use Rattle.session_machine.specs.Session.{Session}
use Rattle.script_typing.specs.Lines.{line_played, line_printed, at_if_done, PlaysLine, PlaysLines, RunsThrough}
use Rattle.script_typing.specs.Playing.{playing}
use Rattle.script_typing.specs.Printing.{output_line}
use Rattle.script_typing.specs.Sessions.{SessionMap, session_or_new, with_session}
use Rattle.script_typing.specs.Typed.{Asking, typing}

-- what was put out may be told otherwise
pub runs-put : {S I : Type 0} {from : I → Interaction S} {To : I → Interaction S → Type 0} {said said' : Dialog}
    {Put Other : List ℕ → Type 0} → ((text : List ℕ) → Put text → Other text) → Runs from To said said' Put
    → Runs from To said said' Other
runs-put other ran = record {
  dialog = ran.dialog;
  text = ran.text;
  grows = ran.grows;
  put = other ran.text ran.put;
  led = ran.led;
}

-- where something is not done it came to some place
pub runs-lost : {E S I : Type 0} {from : I → Interaction S} {said said' : Dialog} {Put : List ℕ → Type 0}
    (place : I → Interaction S) (ended : Result (Unit {0}) E) (P : E → Type 0) → IsErrAnd ended P
    → Runs from anywhere said said' Put → Runs from (at_if_done ended place) said said' Put
runs-lost place (Ok done) P lacks ran = absurd (search (rules, lacks))
runs-lost place (Err fault) P lacks ran = ran

-- Where a meaning was said to its end

-- memory may have been out behind it
pub says-lost : {S : Type 0} {meaning : Interaction S} {end : S} {before after : Spoken} (lost : Memory)
    → Says meaning (Ok end) before after → Says meaning (Err lost) before after
says-lost {meaning = meaning} {end = end} lost says = record {
  dialog = says.dialog;
  number = says.number;
  grows = says.grows;
  ok = tt;
  memory = comes-begins meaning says.dialog end says.ok;
}

module _ {S I T : Type 0} {meaning : Interaction S} {before after : Spoken} (behind : I → S → Interaction T) where
  -- it leads to what stands behind it
  pub says-runs : (end : S) → Says meaning (Ok end) before after
      → Runs (λ i. followed_by meaning (behind i)) (at (λ i. behind i end)) before.said after.said (λ text. text ≡ [])
  says-runs end says = record {
    dialog = says.dialog;
    text = [];
    grows = says.grows;
    put = refl;
    led = λ i. (behind i end, refl, comes-followed meaning says.dialog end (behind i) says.ok);
  }

  -- and else it begins what stands there
  pub says-begins : (lost : Memory) → Says meaning (Err lost) before after
      → Runs (λ i. followed_by meaning (behind i)) anywhere before.said after.said (λ text. text ≡ [])
  says-begins lost says = record {
    dialog = says.dialog;
    text = [];
    grows = says.grows;
    put = refl;
    led = λ i.
        let begun = begins-leads (followed_by meaning (behind i)) says.dialog
        (begins-followed meaning says.dialog (behind i) says.memory) in
        (begun.0, tt, begun.1);
  }

-- One line, and those behind it

-- a line that was not begun, for want of memory
pub lost-line : (table : List Rule) (line : Line) (ended : Result (Unit {0}) Memory) (P : Memory → Type 0)
    (sessions sessions' : SessionMap) (caller : Spoken) → IsErrAnd ended P
    → PlaysLine table line ended sessions sessions' caller caller
lost-line table line (Ok done) P sessions sessions' caller lacks = absurd (search (rules, lacks))
lost-line table line (Err memory) P sessions sessions' caller lacks = record {
  session = session_or_new sessions (session_of line);
  says = record { dialog = []; number = refl; grows = sym (append-nil caller.said); ok = tt; memory = tt };
  put = tt;
}

-- what is left of lines, with others behind it, begins with the one at its place
pub at-line : {Y : Type 0} (F : List Line → Y) (lines : List Line) (place : ℕ) (line : Line) (behind : List Line)
    → place < length lines → line ≡ get_or lines place line
    → F (drop place lines ++ behind) ≡ F (line ∷ (drop (place + 1) lines ++ behind))
at-line F lines place line behind within is =
    at_drop_more (λ ls. F (ls ++ behind)) lines place line within
    ∙ ap (λ l. F (l ∷ (drop (place + 1) lines ++ behind))) (sym is)

module _ {T : Type 0} (F : List Line → Interaction T) (lines : List Line) where
  -- lines that ran on to the one at a place ran on further with it
  pub runs-line : {from : List Line → Interaction T} {To : List Line → Interaction T → Type 0}
      {said between said' : Dialog} {First Then Both : List ℕ → Type 0} (place : ℕ) (line : Line)
      → place < length lines → line ≡ get_or lines place line
      → ((one two : List ℕ) → First one → Then two → Both (one ++ two))
      → Runs from (at (λ behind. F (drop place lines ++ behind))) said between First
      → Runs (λ behind. F (line ∷ behind)) To between said' Then
      → Runs from (λ behind. To (drop (place + 1) lines ++ behind)) said said' Both
  runs-line place line within is puts reached ran =
      runs-then puts (runs-to (λ behind. at-line F lines place line behind within is) reached)
      (runs-along (λ behind. drop (place + 1) lines ++ behind) ran)

  -- lines that ran on to their end are done
  pub runs-over : {from : List Line → Interaction T} {said said' : Dialog} {Put : List ℕ → Type 0} (place : ℕ)
      → length lines ≤ place → Runs from (at (λ behind. F (drop place lines ++ behind))) said said' Put
      → Runs from (at F) said said' Put
  runs-over place over = runs-to (λ behind. ap (λ (ls : List Line). F (ls ++ behind)) (drop_all place lines over))

-- lines that ran through did so with none behind them
pub runs-alone : {E T : Type 0} (meaning : SessionMap → List Line → Interaction T) (lines : List Line)
    (ended : Result (Unit {0}) E) (sessions sessions' : SessionMap) {said said' : Dialog} {Put : List ℕ → Type 0}
    → RunsThrough meaning lines ended sessions sessions' said said' Put
    → Runs (λ (all : Unit {0}). meaning sessions lines) (λ all. at_if_done ended (meaning sessions') []) said said' Put
runs-alone meaning lines ended sessions sessions' ran =
    runs-from (λ all. ap (meaning sessions) (sym (append-nil lines))) (runs-along (λ all. []) ran)

-- nothing is put out where nothing was twice
pub puts-nothing : (one two : List ℕ) → one ≡ [] → two ≡ [] → one ++ two ≡ []
puts-nothing one two first then = ap (λ o. o ++ two) first ∙ then

-- what lines ask and print is what the first does, and then the others
first-played : (table : List Rule) (sessions : SessionMap) (line : Line) (lines : List Line)
    → playing table sessions (line ∷ lines)
    ≡ followed_by (line_played table (session_or_new sessions (session_of line)) line)
    (λ session. playing table (with_session sessions (session_of line) session) lines)
first-played table sessions (Keys number ks) lines = refl
first-played table sessions (Opening number typist book) lines = refl

abbrev with_printed : Line → Session → Asking → Asking
with_printed (Keys number ks) session rest = prints (output_line number session) rest
with_printed (Opening number typist book) session rest = rest

first-typed : (table : List Rule) (sessions : SessionMap) (line : Line) (lines : List Line)
    → typing table sessions (line ∷ lines)
    ≡ followed_by (line_played table (session_or_new sessions (session_of line)) line)
    (λ session. with_printed line session (typing table (with_session sessions (session_of line) session) lines))
first-typed table sessions (Keys number ks) lines = refl
first-typed table sessions (Opening number typist book) lines = refl

runs-printed : {I : Type 0} {said : Dialog} (line : Line) (session : Session) (rest : I → Asking)
    → Runs (λ i. with_printed line session (rest i)) (at rest) said said (λ text. text ≡ line_printed line session)
runs-printed (Keys number ks) session rest = runs-print (output_line number session) rest refl refl
runs-printed (Opening number typist book) session rest = runs-nothing rest refl refl

module _ (table : List Rule) (line : Line) {sessions sessions' : SessionMap} {before after : Spoken} where
  -- lines of which the first was played
  pub played-first : (ended : Result (Unit {0}) Memory) → PlaysLine table line ended sessions sessions' before after
      → PlaysLines table (line ∷ []) ended sessions sessions' before.said after.said
  played-first ended plays = runs-from (first-played table sessions line) (by ended plays)
    where
      behind : List Line → Session → Interaction SessionMap
      behind lines session = playing table (with_session sessions (session_of line) session) lines

      by : (ended : Result (Unit {0}) Memory)
          (plays : PlaysLine table line ended sessions sessions' before after)
          → Runs (λ lines. followed_by (line_played table (session_or_new sessions (session_of line)) line)
          (behind lines)) (at_if_done ended (playing table sessions')) before.said after.said (λ text. text ≡ [])
      by (Ok done) plays =
          runs-to (λ lines. ap (λ map. playing table map lines) (sym plays.put))
          (says-runs behind plays.session plays.says)
      by (Err lost) plays = says-begins behind lost plays.says

  -- lines of which the first was typed: its text comes behind what it asks
  pub typed-first : (plays : PlaysLine table line (Ok tt) sessions sessions' before after)
      → Runs (λ lines. typing table sessions (line ∷ lines)) (at (typing table sessions')) before.said after.said
      (λ text. text ≡ line_printed line plays.session)
  typed-first plays =
      let behind : List Line → Session → Asking =
      λ lines session. with_printed line session
      (typing table (with_session sessions (session_of line) session) lines) in
      runs-to (λ lines. ap (λ map. typing table map lines) (sym plays.put))
      (runs-then (λ one two none is. ap (λ o. o ++ two) none ∙ is)
      (runs-from (first-typed table sessions line) (says-runs behind plays.session plays.says))
      (runs-printed line plays.session
      (λ lines. typing table (with_session sessions (session_of line) plays.session) lines)))

  -- or it was begun
  pub typed-begun : (ended : Result (Unit {0}) Memory)
      → PlaysLine table line ended sessions sessions' before after
      → Runs (λ lines. typing table sessions (line ∷ lines)) anywhere before.said after.said (λ text. ⊤)
  typed-begun (Ok done) plays = runs-put (λ text is. tt) (runs-begun (typed-first plays))
  typed-begun (Err lost) plays =
      runs-put (λ text is. tt) (runs-from (first-typed table sessions line)
      (says-begins (λ lines session. with_printed line session
      (typing table (with_session sessions (session_of line) session) lines)) lost plays.says))
