-- Which texts are plain lists, and of which candidates.
use Rattle.std.proofs.Common.{◌++◌, ◌∷◌, true, false, [], codes, refl, replicate}
use Rattle.exact_readers.specs.Formats.{taken}
use Rattle.skk_calls.specs.PlainCands.{cands_in, is_plain_list}
use Rattle.skk_calls.proofs.Samples.{Gives, noted, plain}

-- a candidate of each item that a slash ends, cut at its first semicolon
cands_of_texts : Gives cands_in (
    ([], [])
    ∷ (codes "a", [])
    ∷ (codes "/", plain [] ∷ [])
    ∷ (codes "a/", plain (codes "a") ∷ [])
    ∷ (codes "a/b", plain (codes "a") ∷ [])
    ∷ (codes "a/b/", plain (codes "a") ∷ plain (codes "b") ∷ [])
    ∷ (codes "漢字/幹事;宴会の/感じ/", plain (codes "漢字") ∷ noted (codes "幹事") (codes "宴会の") ∷ plain (codes "感じ") ∷ [])
    ∷ (codes "a;b;c/", noted (codes "a") (codes "b;c") ∷ [])
    ∷ (codes ";b/", noted [] (codes "b") ∷ [])
    ∷ (codes "a;/", noted (codes "a") [] ∷ [])
    ∷ [])
unfolding taken
cands_of_texts = refl

-- plain lists: words with and without notes, a note may hold what no plain word holds, and a word a parenthesis that
-- begins no form
plain_lists : Gives is_plain_list (
    (codes "a/", true)
    ∷ (codes "漢字/幹事;宴会の/感じ/", true)
    ∷ (codes "a;b;c/", true)
    ∷ (codes "a;\"[(\\]/", true)
    ∷ (codes "(a)/a[/a]/", true)
    ∷ (codes "a;x/b;x/", true)
    ∷ [])
unfolding lib.Utf8.encode taken
plain_lists = refl

-- not so: no item; an end that is no slash; an empty word, and an empty note; a word that is there twice, also with
-- other notes
bad_lists : Gives is_plain_list (
    ([], false)
    ∷ (codes "a", false)
    ∷ (codes "a/b", false)
    ∷ (codes "/", false)
    ∷ (codes "/a/", false)
    ∷ (codes "a//", false)
    ∷ (codes "a//b/", false)
    ∷ (codes ";a/", false)
    ∷ (codes "a/;b/", false)
    ∷ (codes "a;/", false)
    ∷ (codes "a/b;/c/", false)
    ∷ (codes "a/a/", false)
    ∷ (codes "a/b/a/", false)
    ∷ (codes "a;x/b/a;y/", false)
    ∷ [])
unfolding lib.Utf8.encode taken
bad_lists = refl

-- nor words that are not written as they are, and the end of a line in a note
special_lists : Gives is_plain_list (
    (codes "a\"b/", false)
    ∷ (codes "a\\b/", false)
    ∷ (97 ∷ 13 ∷ codes "/", false)
    ∷ (97 ∷ 10 ∷ codes "/", false)
    ∷ (codes "a;" ++ 13 ∷ codes "/", false)
    ∷ (codes "a;b" ++ 10 ∷ codes "/", false)
    ∷ (codes "[a/", false)
    ∷ (codes "a/]/", false)
    ∷ (codes "(concat \"a\")/", false)
    ∷ (codes "(concat a/", false)
    ∷ (codes "(skk-ignore-dic-word a/", false)
    ∷ (codes "a\"b;x/", false)
    ∷ [])
unfolding lib.Utf8.encode taken
special_lists = refl

-- a list has at most 512 bytes
long_lists : Gives (λ count. is_plain_list (replicate count 97 ++ codes "/")) ((511, true) ∷ (512, false) ∷ [])
unfolding lib.Utf8.encode taken
long_lists = refl
