-- How words write the settings that they give.
use Rattle.std.proofs.Common.{◌≡◌, ◌&&◌, sym, subst, refl, ℕ, true, false, if◌then◌else◌, Option, Some, None, List, []}
use Rattle.std.proofs.Common.{◌≤◌, ◌∙◌, ◌∷◌, ◌++◌, ◌==◌, ap, ap₂, arith, length, map, nat_le}
use Rattle.std.specs.Fmt.{decimal}
use Rattle.std.specs.List.{AllByRecursion}
use Rattle.std.specs.Map.{lookup}
use Rattle.std.specs.Option.{IfSome, option_map, option_and_then}
use Rattle.std.specs.Str.{bytes_eq}
use Rattle.std.specs.Str.Parse.{digits_value}
use Rattle.std.proofs.lemmas.Bool.{and_parts, cond_both, eqb-true, leb-true}
use Rattle.std.proofs.lemmas.Option.{IfSome_then}
use Rattle.std.proofs.lemmas.Slice.Eq.{bytes_eq-Decides}
use Rattle.skk_calls.specs.BookLists.{is_book_list}
use Rattle.skk_text.specs.Lines.{with_first}
use Rattle.command_line.specs.Arguments.{options, option_named, value_of, place, takes_at, name_at}
use Rattle.command_line.specs.OptionLaws.{IfSome-map, IfSome-and_then, IfSome-map_or, IfSome-if}
use Rattle.command_line.specs.Ranges.{LiesFrom}
use Rattle.command_line.specs.Settings.{setting, takes_value, option_alone, option_with, option_cut, name_or_cut, whole}
use Rattle.command_line.specs.Settings.{begun, with_setting, settings_of}
use Rattle.command_line.specs.Words.{is_name, number_within, cut, with_character, parts_of, joined_parts, with_commas}
use Rattle.command_line.specs.Words.{with_front, numbers_of, numbers_in, listed, books_listed}
use Rattle.command_line.specs.declared.argument.Argument.{Argument}
use Rattle.command_line.specs.declared.argument.Argument.TheVariants.{File}
use Rattle.command_line.specs.declared.argument.OptionRow.{OptionRow}
use Rattle.command_line.specs.declared.argument.Takes.{Takes}
use Rattle.command_line.specs.declared.argument.Takes.TheVariants as takes
use Rattle.command_line.specs.declared.setting.Setting.{Setting}
use Rattle.command_line.specs.declared.setting.Value.{Value}
use Rattle.command_line.specs.declared.setting.Value.TheVariants.{Nothing, Text, Number, Books}

-- what the option of an argument takes, and how it is spelled: by its place, a name behind two hyphens
abbrev pub taken_by : Argument → Takes
taken_by argument = takes_at (place argument)

-- how it is spelled
abbrev pub spelling : Argument → List ℕ
spelling argument = 45 ∷ 45 ∷ name_at (place argument)

-- a word and its row are what the row's argument says
abbrev IsRowOf : List ℕ → OptionRow → Type 0
IsRowOf word row = ◌≡◌ {A = Takes × List ℕ} (row.takes, word) (taken_by row.argument, spelling row.argument)

-- the row that a word spells is such
named : (word : List ℕ) → IfSome (option_named word) (IsRowOf word)
named word =
    found options (
      refl,
      (
        refl,
        (
          refl,
          (
            refl,
            (refl, (refl, (refl, (refl, (refl, (refl, (refl, (refl, (refl, (refl, (refl, tt))))))))))),
          ),
        ),
      ),
    )
  where
    found : (rows : List (List ℕ × OptionRow))
        → AllByRecursion (λ (row : List ℕ × OptionRow). IsRowOf row.0 row.1) rows
        → IfSome (lookup (bytes_eq word) rows) (IsRowOf word)
    found [] all = tt
    found (row ∷ rows) all =
        cond_both (bytes_eq word row.0) (Some row.1) (lookup (bytes_eq word) rows) (λ o. IfSome o (IsRowOf word))
        (λ same. subst (λ w. IsRowOf w row.1) (sym ((bytes_eq-Decides word row.0).0 same)) all.0)
        (λ _. found rows all.1)

-- a word writes a value of what is taken: a name, a number in its range, or a list of books with a comma between
abbrev pub Writes : Takes → List ℕ → Value → Type 0
Writes takes.Nothing word value = ⊥
Writes takes.Name word value = (is_name word ≡ true) × (value ≡ Text word)
Writes (takes.Number least most) word value =
    (number : ℕ) × (word ≡ decimal number) × (value ≡ Number number) × LiesFrom least most number
Writes takes.Books word value =
    (books : List ℕ) × (word ≡ with_commas books) × (value ≡ Books books) × (is_book_list books ≡ true)
    × AllByRecursion (LiesFrom 0 65535) books

-- so does a number by itself
number-written : (least most : ℕ) (word : List ℕ)
    → IfSome (number_within least most word) (λ number. (word ≡ decimal number) × LiesFrom least most number)
number-written least most word =
    let number = digits_value 10 word in
    let range = nat_le least number && nat_le number most in
    IfSome-if (λ n. (word ≡ decimal n) × LiesFrom least most n) (bytes_eq word (decimal number) && range) number
    (λ e.
    let parts = and_parts (bytes_eq word (decimal number)) range e in
    let bounds = and_parts (nat_le least number) (nat_le number most) parts.1 in (
      (bytes_eq-Decides word (decimal number)).0 parts.0,
      (leb-true least number bounds.0, leb-true number most bounds.1),
    ))

-- the parts of a word are some, and make it with a comma between
parts-first : (character : ℕ) (parts : List (List ℕ))
    → joined_parts (with_first character parts) ≡ character ∷ joined_parts parts
parts-first character [] = refl
parts-first character (part ∷ []) = refl
parts-first character (part ∷ next ∷ parts) = refl

parts-behind : (parts : List (List ℕ)) → 1 ≤ length parts → joined_parts ([] ∷ parts) ≡ 44 ∷ joined_parts parts
parts-behind [] some = absurd (omega (arith, some))
parts-behind (part ∷ parts) some = refl

first-some : (character : ℕ) (parts : List (List ℕ)) → 1 ≤ length (with_first character parts)
first-some character [] = omega arith
first-some character (part ∷ parts) = omega arith

parts-some : (word : List ℕ) → 1 ≤ length (parts_of word)
parts-some [] = omega arith
parts-some (c ∷ cs) =
    cond_both (c == 44) ([] ∷ parts_of cs) (with_first c (parts_of cs)) (λ parts. 1 ≤ length parts)
    (λ _. omega arith) (λ _. first-some c (parts_of cs))

pub parts-joined : (word : List ℕ) → joined_parts (parts_of word) ≡ word
parts-joined [] = refl
parts-joined (c ∷ cs) =
    cond_both (c == 44) ([] ∷ parts_of cs) (with_first c (parts_of cs)) (λ parts. joined_parts parts ≡ c ∷ cs)
    (λ same. parts-behind (parts_of cs) (parts-some cs) ∙ ap (λ rest. 44 ∷ rest) (parts-joined cs)
    ∙ ap (λ x. x ∷ cs) (sym (eqb-true c 44 same)))
    (λ _. parts-first c (parts_of cs) ∙ ap (λ rest. c ∷ rest) (parts-joined cs))

-- parts that write numbers are these in decimal
numbers-written : (parts : List (List ℕ))
    → IfSome (numbers_of parts) (λ numbers. (parts ≡ map decimal numbers) × AllByRecursion (LiesFrom 0 65535) numbers)
numbers-written [] = (refl, tt)
numbers-written (part ∷ parts) =
    let Are = λ (numbers : List ℕ). (part ∷ parts ≡ map decimal numbers) × AllByRecursion (LiesFrom 0 65535) numbers in
    IfSome-and_then Are (λ number. with_front (number ∷ []) (numbers_of parts)) (number_within 0 65535 part)
    (IfSome_then (number_within 0 65535 part) (number-written 0 65535 part) (λ number is.
    IfSome-map Are (λ more. number ∷ more) (numbers_of parts)
    (IfSome_then (numbers_of parts) (numbers-written parts) (λ numbers are.
    (ap₂ (λ (p : List ℕ) (ps : List (List ℕ)). p ∷ ps) is.0 are.0, (is.1, are.1))))))

-- a word that lists books is their numbers, with a comma between
books-written : (word : List ℕ)
    → IfSome (books_listed word) (λ books. (word ≡ with_commas books) × (is_book_list books ≡ true)
    × AllByRecursion (LiesFrom 0 65535) books)
books-written word =
    let Are = λ (books : List ℕ). (word ≡ with_commas books) × (is_book_list books ≡ true)
    × AllByRecursion (LiesFrom 0 65535) books in
    IfSome-and_then Are listed (numbers_in word)
    (IfSome_then (numbers_in word) (numbers-written (parts_of word)) (λ numbers are.
    IfSome-if Are (is_book_list numbers) numbers
    (λ list. (sym (parts-joined word) ∙ ap joined_parts are.0, list, are.1))))

value-written : (taken : Takes) (word : List ℕ) → IfSome (value_of taken word) (Writes taken word)
value-written takes.Nothing word = tt
value-written takes.Name word = IfSome-if (Writes takes.Name word) (is_name word) (Text word) (λ e. (e, refl))
value-written (takes.Number least most) word =
    IfSome-map (Writes (takes.Number least most) word) Number (number_within least most word)
    (IfSome_then (number_within least most word) (number-written least most word)
    (λ number is. (number, is.0, refl, is.1)))
value-written takes.Books word =
    IfSome-map (Writes takes.Books word) Books (books_listed word)
    (IfSome_then (books_listed word) (books-written word) (λ books is. (books, is.0, refl, is.1, is.2)))

-- words write settings, each of them a file's name, an option by itself, or an option with its value behind `=` or in
-- the next word
pub data AreWritten : List (List ℕ) → List Setting → Type 0 where
  empty : AreWritten [] []
  bare : (word : List ℕ) {words : List (List ℕ)} {settings : List Setting} → AreWritten words settings
      → AreWritten (word ∷ words) (setting File (Text word) ∷ settings)
  alone : (argument : Argument) {words : List (List ℕ)} {settings : List Setting}
      → takes_value (taken_by argument) ≡ false → AreWritten words settings
      → AreWritten (spelling argument ∷ words) (setting argument Nothing ∷ settings)
  joined : (argument : Argument) (text : List ℕ) (value : Value) {words : List (List ℕ)} {settings : List Setting}
      → Writes (taken_by argument) text value → AreWritten words settings
      → AreWritten ((spelling argument ++ 61 ∷ text) ∷ words) (setting argument value ∷ settings)
  apart : (argument : Argument) (text : List ℕ) (value : Value) {words : List (List ℕ)} {settings : List Setting}
      → Writes (taken_by argument) text value → AreWritten words settings
      → AreWritten (spelling argument ∷ text ∷ words) (setting argument value ∷ settings)

-- the two parts of a word that is cut make it
cut-joined : (word : List ℕ) → IfSome (cut 61 word) (λ parts. word ≡ parts.0 ++ 61 ∷ parts.1)
cut-joined [] = tt
cut-joined (c ∷ cs) =
    cond_both (c == 61) (Some ([], cs)) (option_map (with_character c) (cut 61 cs))
    (λ o. IfSome o (λ parts. c ∷ cs ≡ parts.0 ++ 61 ∷ parts.1))
    (λ same. ap (λ x. x ∷ cs) (eqb-true c 61 same)) (λ _.
    IfSome-map (λ parts. c ∷ cs ≡ parts.0 ++ 61 ∷ parts.1) (with_character c) (cut 61 cs)
    (IfSome_then (cut 61 cs) (cut-joined cs) (λ parts is. ap (λ l. c ∷ l) is)))

-- an option writes its setting in some form of words, with a value where it does so with each that it takes
option-written : (form : List ℕ → List (List ℕ)) (word text : List ℕ) (settings : List Setting) (row : OptionRow)
    → IsRowOf word row → ((value : Value) → Writes (taken_by row.argument) text value
    → AreWritten (form (spelling row.argument)) (setting row.argument value ∷ settings))
    → IfSome (option_with row text) (λ s. AreWritten (form word) (s ∷ settings))
option-written form word text settings row is by =
    subst (λ (p : Takes × List ℕ). IfSome (option_map (setting row.argument) (value_of p.0 text))
    (λ s. AreWritten (form p.1) (s ∷ settings))) (sym is)
    (IfSome-map (λ s. AreWritten (form (spelling row.argument)) (s ∷ settings)) (setting row.argument)
    (value_of (taken_by row.argument) text)
    (IfSome_then (value_of (taken_by row.argument) text) (value-written (taken_by row.argument) text) by))

alone-written : (word : List ℕ) (words : List (List ℕ)) (settings : List Setting) (row : OptionRow) → IsRowOf word row
    → AreWritten words settings → IfSome (option_alone row) (λ s. AreWritten (word ∷ words) (s ∷ settings))
alone-written word words settings row is more =
    subst (λ (p : Takes × List ℕ). IfSome (if takes_value p.0 then None else Some (setting row.argument Nothing))
    (λ s. AreWritten (p.1 ∷ words) (s ∷ settings))) (sym is)
    (cond_both (takes_value (taken_by row.argument)) None (Some (setting row.argument Nothing))
    (λ o. IfSome o (λ s. AreWritten (spelling row.argument ∷ words) (s ∷ settings))) (λ _. tt)
    (λ free. alone row.argument free more))

-- what a word writes by itself
whole-written : (word : List ℕ) (words : List (List ℕ)) (settings : List Setting) → AreWritten words settings
    → IfSome (whole word) (λ s. AreWritten (word ∷ words) (s ∷ settings))
whole-written word words settings more =
    let P = λ (s : Setting). AreWritten (word ∷ words) (s ∷ settings) in
    IfSome-map_or P option_alone (option_named word) (name_or_cut word)
    (IfSome_then (option_named word) (named word) (λ row is. alone-written word words settings row is more))
    (cond_both (is_name word) (Some (setting File (Text word))) (option_and_then option_cut (cut 61 word))
    (λ o. IfSome o P) (λ _. bare word more) (λ _.
    IfSome-and_then P option_cut (cut 61 word) (IfSome_then (cut 61 word) (cut-joined word) (λ parts is.
    subst (λ w. IfSome (option_cut parts) (λ s. AreWritten (w ∷ words) (s ∷ settings))) (sym is)
    (IfSome-and_then (λ s. AreWritten ((parts.0 ++ 61 ∷ parts.1) ∷ words) (s ∷ settings))
    (λ row. option_with row parts.1) (option_named parts.0)
    (IfSome_then (option_named parts.0) (named parts.0) (λ row of.
    option-written (λ w. (w ++ 61 ∷ parts.1) ∷ words) parts.0 parts.1 settings row of
    (λ value writes. joined row.argument parts.1 value writes more))))))))

one-more : (words : List (List ℕ)) (first : Option Setting) (others : Option (List Setting))
    → IfSome others (λ settings. IfSome first (λ s. AreWritten words (s ∷ settings)))
    → IfSome (with_setting first others) (AreWritten words)
one-more words None others is = tt
one-more words (Some first) None is = tt
one-more words (Some first) (Some others) is = is

-- words write the settings that they give
pub written : (words : List (List ℕ)) → IfSome (settings_of words) (AreWritten words)
written [] = empty
written (word ∷ []) = one-more (word ∷ []) (whole word) (Some []) (whole-written word [] [] empty)
written (word ∷ next ∷ words) =
    let all = word ∷ next ∷ words in
    IfSome-map_or (AreWritten all) (λ row. with_setting (option_with row next) (settings_of words)) (begun word)
    (with_setting (whole word) (settings_of (next ∷ words)))
    (IfSome-and_then (λ row. IfSome (with_setting (option_with row next) (settings_of words)) (AreWritten all))
    (λ row. if takes_value row.takes then Some row else None) (option_named word)
    (IfSome_then (option_named word) (named word) (λ row is.
    IfSome-if (λ r. IfSome (with_setting (option_with r next) (settings_of words)) (AreWritten all))
    (takes_value row.takes) row (λ _.
    one-more all (option_with row next) (settings_of words)
    (IfSome_then (settings_of words) (written words) (λ settings more.
    option-written (λ w. w ∷ next ∷ words) word next settings row is
    (λ value writes. apart row.argument next value writes more)))))))
    (one-more all (whole word) (settings_of (next ∷ words))
    (IfSome_then (settings_of (next ∷ words)) (written (next ∷ words)) (whole-written word (next ∷ words))))
