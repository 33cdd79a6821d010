-- What is printed of a candidate is read again as the candidate, where it stands by itself.
use Rattle.std.proofs.Common.{◌≡◌, ◌∙◌, ◌+◌, true, false, nat_le, if◌then◌else◌, Some, Ok, Err, ap, refl, arith}
use Rattle.std.proofs.lemmas.Bool.{le-ltb, leb-true}
use Rattle.std.proofs.lemmas.List.Folds.{list_all-append}
use Rattle.skk_text.specs.Lists.{is_empty}
use Rattle.skk_text.specs.Text.{byte_len}
use Rattle.skk_calls.specs.Canonical.{item, written_word}
use Rattle.skk_calls.specs.Rows.{Cand, is_cand, is_note, word_limit}
use Rattle.dict_format.specs.declared.single.ItemFault.TheVariants.{Long}
use Rattle.dict_format.specs.Items.{before_note, note_of_text}
use Rattle.dict_format.specs.ItemsAlone.{cand_alone, if_worded, is_long, item_alone}
use Rattle.dict_format.specs.Words.{said}
use Rattle.dict_format.proofs.Exactness.{said-only}
use Rattle.dict_format.proofs.ItemsAgain.{note_noted, plain_noted}
use Rattle.dict_format.proofs.WordsAgain.{item_note, item_word, written_plain, written_says}

module _ (c : Cand) (is : is_cand c ≡ true) where
  noted : is_note c.note ≡ true
  noted = grind arith

  short : is_long c ≡ false
  short =
      let all = byte_len c.word + byte_len c.note in
      let fits : nat_le all word_limit ≡ true = grind arith in le-ltb word_limit all (leb-true all word_limit fits)

  some : is_empty c.word ≡ false
  some = grind arith

  same : cand_alone (item c) ≡ c
  same =
      let word : said (before_note (item c)) ≡ c.word =
      ap said (item_word c.word c.note) ∙ said-only (written_word c.word) c.word (written_says c.word) in
      let note : note_of_text (item c) ≡ c.note = item_note c.word c.note noted in
      rw (word, note) refl

  pub item_back : item_alone (item c) ≡ Ok (Some c)
  unfolding item_alone
  item_back =
      ap (λ (d : Cand). if is_long d then Err Long else Ok (if_worded d)) same
      ∙ rw (short, some) refl

  -- and it has the characters of a note alone
  pub item_noted : is_note (item c) ≡ true
  item_noted =
      simp (list_all-append, plain_noted (written_word c.word) (written_plain c.word), note_noted c.note noted)
