-- How `clap` walks over the words of settings: each leads from one place between options to the next, and leaves a row.
use Rattle.std.proofs.Common.{◌≡◌, ◌∙◌, ◌==◌, sym, ap, subst, refl, arith, ℕ, Bool, true}
use Rattle.std.proofs.Common.{false, Option, Some, None, is_some, List, [], ◌∷◌, ◌++◌, map, codes, fold, nat_le}
use Rattle.std.proofs.Common.{append_assoc}
use lib.Utf8.{encodes}
use Rattle.std.specs.Option.{option_map_or}
use Rattle.std.specs.Prelude.{⊤}
use Rattle.std.specs.Str.{bytes_eq}
use Rattle.std.proofs.lemmas.Bool.{and_from, false_from_ne_true, leb-true, not-true}
use Rattle.std.proofs.lemmas.List.{append-nil}
use Rattle.std.proofs.lemmas.Option.{none-some}
use Rattle.std.proofs.lemmas.Slice.Eq.{bytes_eq-Decides}
use Rattle.clap.specs.Lexer.{long_of, short_of}
use Rattle.clap.specs.Simple.{Shape, filled, new_rule, new_shape}
use Rattle.clap.specs.Takes.{settle_passes, turn_passes, walk_passes}
use Rattle.clap.specs.Walk.{Held, Row, Rule, Text, Waiting, Walk, arg_by_id, arg_by_long, has_row, idle}
use Rattle.clap.specs.Walk.{option, settled, settled_rows, used_by_id, walked}
use Rattle.clap.specs.declared.builder.action.ArgAction.{ArgAction}
use Rattle.clap.specs.declared.builder.action.ArgAction.TheVariants.{SetTrue}
use Rattle.command_line.specs.Arguments.{place, row_at, takes_at, name_at}
use Rattle.command_line.specs.OptionWords.{action_of}
use Rattle.command_line.specs.SettingLaws.{AreWritten, Writes, empty, bare, alone, joined, apart, spelling, taken_by}
use Rattle.command_line.specs.Settings.{takes_value}
use Rattle.command_line.specs.Words.{is_name}
use Rattle.command_line.specs.declared.argument.Takes.{Takes}
use Rattle.command_line.specs.declared.argument.Takes.TheVariants.{Nothing, Name, Number, Books}
use Rattle.command_line.specs.declared.setting.Setting.{Setting}
use Rattle.command_line.specs.declared.setting.Value.{Value}
use Rattle.command_line.proofs.OptionRows.{row_for, shown, use_row, used_row}
use Rattle.command_line.proofs.WordTexts.{name-bytes, decimal-bytes, commas-bytes}

-- a command as it is built, with these options
abbrev pub shape : Text → List Rule → Shape
shape title rules =
    record (new_shape title) { rules = rules; disable_help_subcommand = true; is_built = true }

-- an option by what is done where it is met
abbrev pub rule_by : Option ArgAction → Text → Bool → Rule
rule_by action name required =
    filled (record (new_rule name) { long = Some name; action = action; required = required })

-- it is found by its name
pub record IsFound (rules : List Rule) (name : Text) (rule : Rule) : Type 0 where
  pub long : arg_by_long rules name ≡ Some rule
  pub id : arg_by_id rules name ≡ Some rule

abbrev pub required_at : List Rule → ℕ → Bool
required_at rules number = option_map_or (λ r. r.required) (arg_by_id rules (name_at number)) false

-- numbers that are taken are those of 64 bits
abbrev pub is_small : Takes → Bool
is_small Nothing = true
is_small Name = true
is_small (Number least most) = nat_le most 18446744073709551615
is_small Books = true

-- the argument at a place has its option among those of a command: its word leads there, with a value behind `=` or by
-- itself
pub record IsOption (rules : List Rule) (number : ℕ) : Type 0 where
  pub found : IsFound rules (name_at number)
      (rule_by (action_of (takes_at number)) (name_at number) (required_at rules number))
  pub by_itself : long_of (encodes (45 ∷ 45 ∷ name_at number)) ≡ Some (name_at number, None)
  pub with_value : (text : List ℕ)
      → long_of (encodes (45 ∷ 45 ∷ name_at number ++ 61 ∷ text)) ≡ Some (name_at number, Some (encodes text))
  pub small : is_small (takes_at number) ≡ true
  pub listed : is_some (row_at number) ≡ true

found_as : (rules : List Rule) (number : ℕ) (action : Option ArgAction) → IsOption rules number
    → action_of (takes_at number) ≡ action
    → IsFound rules (name_at number) (rule_by action (name_at number) (required_at rules number))
found_as rules number action has is =
    subst (λ a. IsFound rules (name_at number) (rule_by a (name_at number) (required_at rules number))) is has.found

-- settings whose options a command has, each of them for the first time behind these rows
abbrev pub AreTaken : List Rule → List Row → List Setting → Type 0
AreTaken rules found [] = ⊤
AreTaken rules found (given ∷ settings) =
    IsOption rules (place given.argument) × (has_row (name_at (place given.argument)) found ≡ false)
    × AreTaken rules (found ++ row_for given ∷ []) settings

-- an option that takes no value is a flag
flag-action : (taken : Takes) → takes_value taken ≡ false → action_of taken ≡ Some SetTrue
flag-action taken none = grind arith

-- the text of a value is no flag, and is shown as it is
record IsTextOf (taken : Takes) (text : List ℕ) (value : Value) : Type 0 where
  action : action_of taken ≡ None
  plain : is_name (encodes text) ≡ true
  is : encodes text ≡ shown value

text-of : (taken : Takes) (text : List ℕ) (value : Value) → is_small taken ≡ true → Writes taken text value
    → IsTextOf taken text value
text-of Nothing text value small writes = absurd writes
text-of Name text value small writes =
    record { action = refl; plain = name-bytes text writes.0; is = ap shown (sym writes.1) }
text-of (Number least most) text value small writes =
    let bytes = decimal-bytes writes.0 (omega (arith, writes.3.1, leb-true most 18446744073709551615 small)) in
    let same = ap encodes writes.1 ∙ bytes.0 in
    record { action = refl; plain = ap is_name same ∙ bytes.1; is = same ∙ ap shown (sym writes.2) }
text-of Books text value small writes =
    let bytes = commas-bytes writes.0 writes.3 writes.4 in
    let same = ap encodes writes.1 ∙ bytes.0 in
    record { action = refl; plain = ap is_name same ∙ bytes.1; is = same ∙ ap shown (sym writes.2) }

no-dashes : (word : Text) (parts : Text × Option Text) → long_of word ≡ Some parts
    → bytes_eq word (45 ∷ 45 ∷ []) ≡ false
no-dashes word parts is =
    false_from_ne_true (bytes_eq word (45 ∷ 45 ∷ [])) (λ same.
    none-some parts (sym (ap long_of ((bytes_eq-Decides word (45 ∷ 45 ∷ [])).0 same)) ∙ is))

-- a word that does not begin with `-` is none
record IsPlain (word : Text) : Type 0 where
  dashes : bytes_eq word (45 ∷ 45 ∷ []) ≡ false
  long : long_of word ≡ None
  short : short_of word ≡ None

no-flag : (word : Text) → is_name word ≡ true → IsPlain word
no-flag [] name = absurd (cc)
no-flag (x ∷ xs) name =
    let e : (x == 45) ≡ false = not-true (x == 45) name in
    record { dashes = rw e; long = rw e; short = rw e }

same : (name : Text) → bytes_eq name name ≡ true
same name = (bytes_eq-Decides name name).1 refl

abbrev held : List Row → Option (Text × List Text) → Held
held rows pending = record { rows = rows; pending = pending; skip = 0 }

-- the walk between two words
abbrev pub at : List Row → Option (Text × List Text) → Waiting → Walk
at rows pending waiting =
    record { held = held rows pending; waiting = waiting; position = 1; is_trailing = false; stopped = None }

-- what is pending passes, and leaves these rows
pub record Stands (rules : List Rule) (rows : List Row) (pending : Option (Text × List Text)) (found : List Row)
    : Type 0 where
  pub rows_are : settled_rows rules pending rows ≡ found
  pub passes : settle_passes rules false (held rows pending) ≡ true

-- from a place of the walk the words pass, and leave these rows at their end
pub record Follows (title : Text) (rules : List Rule) (w : Walk) (words : List Text) (found : List Row) : Type 0 where
  pub passes : walk_passes (shape title rules) [] w words ≡ true
  pub settles : settle_passes rules false (fold (walked rules []) w words).held ≡ true
  pub rows_are : (settled rules (fold (walked rules []) w words).held).rows ≡ found
  pub unstopped : (fold (walked rules []) w words).stopped ≡ None

module _ (title : Text) (rules : List Rule) where
  step : (w after : Walk) (word : Text) (words : List Text) (end : List Row) → walked rules [] w word ≡ after
      → turn_passes (shape title rules) [] w word ≡ true → Follows title rules after words end
      → Follows title rules w (word ∷ words) end
  unfolding walk_passes
  step w after word words end is passes more =
      let rest = subst (λ n. Follows title rules n words end) (sym is) more in
      record {
        passes = and_from (turn_passes (shape title rules) [] w word)
            (walk_passes (shape title rules) [] (walked rules [] w word) words) passes rest.passes;
        settles = rest.settles;
        rows_are = rest.rows_are;
        unstopped = rest.unstopped;
      }

  -- the words of settings
  pub followed : {words : List (List ℕ)} {settings : List Setting} → AreWritten words settings
      → (rows found : List Row) (pending : Option (Text × List Text)) → Stands rules rows pending found
      → AreTaken rules found settings
      → Follows title rules (at rows pending idle) (map encodes words) (found ++ map row_for settings)
  unfolding walk_passes walked
  followed empty rows found pending s taken =
      record { passes = refl; settles = s.passes; rows_are = s.rows_are ∙ sym (append-nil found); unstopped = refl }
  followed (bare word more) rows found pending s taken =
      let listed : is_some (row_at 0) ≡ true = taken.0.listed in absurd (cc)
  followed (alone argument {words} {settings} free more) rows found pending s taken =
      let name = name_at (place argument) in
      let now = found ++ use_row name (codes "true") ∷ [] in
      let is = taken.0.by_itself in
      let d = no-dashes (encodes (spelling argument)) (name, None) is in
      let by = (found_as rules (place argument) (Some SetTrue) taken.0 (flag-action (taken_by argument) free)).long in
      let used = used_row name (codes "true") (codes "true") found refl taken.1 in
      step (at rows pending idle) (at now None idle) (encodes (spelling argument)) (map encodes words) _
      (rw (d, is, by, s.rows_are, used)) (rw (d, is, by, s.passes, s.rows_are, taken.1))
      (rw append_assoc at (followed more now now None (record { rows_are = refl; passes = refl }) taken.2))
  followed (joined argument text value {words} {settings} writes more) rows found pending s taken =
      let name = name_at (place argument) in
      let now = found ++ use_row name (shown value) ∷ [] in
      let shows = text-of (taken_by argument) text value taken.0.small writes in
      let is = taken.0.with_value text in
      let d = no-dashes (encodes (spelling argument ++ 61 ∷ text)) (name, Some (encodes text)) is in
      let by = (found_as rules (place argument) None taken.0 shows.action).long in
      let used = used_row name (encodes text) (shown value) found shows.is taken.1 in
      step (at rows pending idle) (at now None idle) (encodes (spelling argument ++ 61 ∷ text)) (map encodes words) _
      (rw (d, is, by, s.rows_are, used)) (rw (d, is, by, s.passes, s.rows_are, taken.1))
      (rw append_assoc at (followed more now now None (record { rows_are = refl; passes = refl }) taken.2))
  followed (apart argument text value {words} {settings} writes more) rows found pending s taken =
      let name = name_at (place argument) in
      let now = found ++ use_row name (shown value) ∷ [] in
      let v = encodes text in
      let shows = text-of (taken_by argument) text value taken.0.small writes in
      let plain = no-flag v shows.plain in
      let is = taken.0.by_itself in
      let d = no-dashes (encodes (spelling argument)) (name, None) is in
      let by = found_as rules (place argument) None taken.0 shows.action in
      step (at rows pending idle) (at found (Some (name, [])) (option name)) (encodes (spelling argument))
      (v ∷ map encodes words) _ (rw (d, is, by.long, s.rows_are))
      (rw (d, is, by.long, s.passes))
      (step (at found (Some (name, [])) (option name)) (at found (Some (name, v ∷ [])) idle) v (map encodes words) _
      (rw (plain.dashes, plain.long, plain.short, by.id, same name)) (rw (plain.dashes, plain.long, plain.short))
      (rw append_assoc at (followed more found now (Some (name, v ∷ [])) (record {
        rows_are = ap (λ r. used_by_id r (v ∷ []) found) by.id
            ∙ used_row name v (shown value) found shows.is taken.1;
        passes = rw (by.id, taken.1);
      }) taken.2)))
