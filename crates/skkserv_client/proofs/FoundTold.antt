-- What is sent for candidates that were found tells these candidates.
use Rattle.std.proofs.Common.{◌≡◌, ◌≢◌, ◌∙◌, ◌≤◌, ◌+◌, ℕ, Bool, true, false, not, ◌==◌, if◌then◌else◌, None, Some, Ok}
use Rattle.std.proofs.Common.{Err}
use Rattle.std.proofs.Common.{List, [], ◌∷◌, ◌++◌, codes, encode_utf8_all, map, length, length-append, ap, arith, refl}
use Rattle.std.proofs.Common.{sym, append_assoc, subst}
use lib.Utf8.{encode, scalar, scalars}
use Rattle.std.specs.List.{flat_map, fold, list_all}
use Rattle.std.specs.Str.{IsUtf8, chars}
use Rattle.std.specs.Str.Lossy.{utf8_valid_len}
use Rattle.std.proofs.lemmas.Bool.{and_from, and_parts}
use Rattle.std.proofs.lemmas.List.Folds.{list_all-map}
use Rattle.std.proofs.lemmas.Str.{chars-encodes, chars_from_encodes, encodes-append, is_utf8-from_IsUtf8}
use Rattle.std.proofs.lemmas.Str.{scalars-chars}
use Rattle.skk_text.specs.FilterLaws.{filter_all}
use Rattle.skk_text.specs.Lists.{is_empty}
use Rattle.skk_text.specs.PairsLaws.{list_all-weaker}
use Rattle.skk_text.specs.Text.{byte_len}
use Rattle.skk_calls.specs.Canonical.{item, with_slash}
use Rattle.skk_calls.specs.Rows.{Cand, is_cand, is_note, is_note_char, texts_differ, words_of}
use Rattle.word_sets.specs.FirstLaws.{first_of_each-fold, fold_new-fresh}
use Rattle.word_sets.specs.Firsts.{with_new}
use Rattle.exact_readers.specs.CutLaws.{cut-at}
use Rattle.exact_readers.specs.Formats.{past, then_at}
use Rattle.exact_readers.specs.LackLaws.{both_lack, bytes_lack, each_passes, lacks-failing}
use Rattle.exact_readers.specs.Lacking.{lacks}
use Rattle.exact_readers.specs.Lines.{is_line_feed, without_return}
use Rattle.dict_format.specs.declared.single.ItemFault.TheVariants.{Long}
use Rattle.dict_format.specs.Building.{cands_once}
use Rattle.dict_format.specs.ItemsAlone.{cand_alone, if_worded, is_long, item_alone}
use Rattle.dict_format.specs.Reading.{texts_at}
use Rattle.skk_calls.specs.declared.answer.Reply.TheVariants.{Found}
use Rattle.skkserv_proto.specs.declared.request.Request.TheVariants as requests
use Rattle.skkserv_proto.specs.Replies.{item_bytes, listed, reply_to}
use Rattle.skkserv_client.specs.declared.question.Ask.TheVariants.{Look}
use Rattle.skkserv_client.specs.declared.told.AskFault.TheVariants.{BadReply}
use Rattle.skkserv_client.specs.declared.told.Told.TheVariants.{Cands}
use Rattle.skkserv_client.specs.Replies.{first_long, if_line, if_none_long, if_texts, line_of}
use Rattle.skkserv_client.specs.Replies.{texts_of_line, told_by, told_by_line, told_by_list, told_by_texts}
use Rattle.skkserv_client.proofs.Lines.{line_here}

-- Bytes

-- the bytes of texts, each with its slash
items_bytes : (texts : List (List ℕ)) → encode_utf8_all (flat_map with_slash texts) ≡ flat_map item_bytes texts
unfolding encode
items_bytes [] = refl
items_bytes (text ∷ texts) =
    encodes-append (with_slash text) (flat_map with_slash texts)
    ∙ ap (λ bytes. bytes ++ encode_utf8_all (flat_map with_slash texts)) (encodes-append text (0x2F ∷ []))
    ∙ ap (λ bytes. item_bytes text ++ bytes) (items_bytes texts)

-- they end in a slash, also where there is none
ends_in_slash : (texts : List (List ℕ)) → (front : List ℕ) × (0x2F ∷ flat_map item_bytes texts ≡ front ++ 0x2F ∷ [])
ends_in_slash [] = ([], refl)
ends_in_slash (text ∷ texts) =
    let more = ends_in_slash texts in
    (0x2F ∷ encode_utf8_all text ++ more.0, simp (append_assoc, more.1))

-- and in no CR
slash_stays : (xs : List ℕ) → without_return (xs ++ 0x2F ∷ []) ≡ xs ++ 0x2F ∷ []
slash_stays [] = refl
slash_stays (c ∷ []) = refl
slash_stays (c ∷ d ∷ xs) = ap (λ ys. c ∷ ys) (slash_stays (d ∷ xs))

-- the front of characters
front_scalars : (xs ys : List ℕ) → scalars (xs ++ ys) ≡ true → scalars xs ≡ true
front_scalars [] ys all = refl
front_scalars (x ∷ xs) ys all =
    let parts = and_parts (scalar x) (scalars (xs ++ ys)) all in
    and_from (scalar x) (scalars xs) parts.0 (front_scalars xs ys parts.1)

-- Candidates

-- what is read of an item by itself
alone_parts : (d c : Cand) → (if is_long d then Err Long else Ok (if_worded d)) ≡ Ok (Some c)
    → (is_long d ≡ false) × (d ≡ c)
alone_parts d c e = by (is_long d) (is_empty d.word) refl e
  where
    by : (long empty : Bool) → is_long d ≡ long
        → (if long then Err Long else Ok (if empty then None else Some d)) ≡ Ok (Some c)
        → (is_long d ≡ false) × (d ≡ c)
    by true empty l f = cc
    by false true l f = cc
    by false false l f = (l, cc)

module _ (read : (c : Cand) → is_cand c ≡ true → item_alone (item c) ≡ Ok (Some c)) where
  -- the items of candidates are these, and none is too long
  items_told : (at : ℕ) (cands : List Cand) → list_all is_cand cands ≡ true
      → (first_long at (map item cands) ≡ None) × (map cand_alone (map item cands) ≡ cands)
  unfolding item_alone
  items_told at [] all = (refl, refl)
  items_told at (c ∷ cands) all =
      let parts = and_parts (is_cand c) (list_all is_cand cands) all in
      let alone = alone_parts (cand_alone (item c)) c (read c parts.0) in
      let more = items_told (at + (byte_len (item c) + 1)) cands parts.1 in (
        ap (λ b. if b then Some at else first_long (at + (byte_len (item c) + 1)) (map item cands)) alone.0 ∙ more.0,
        ap (λ d. d ∷ map cand_alone (map item cands)) alone.1 ∙ ap (λ ds. c ∷ ds) more.1,
      )

-- a candidate has a word
worded : (c : Cand) → is_cand c ≡ true → not (is_empty c.word) ≡ true
worded c is = grind arith

-- candidates whose words differ are the first of each
all_first : (cands : List Cand) → list_all is_cand cands ≡ true → texts_differ (words_of cands) ≡ true
    → cands_once cands ≡ cands
all_first cands all differ =
    first_of_each-fold (λ (c : Cand). c.word) _
    ∙ ap (fold (with_new (λ (c : Cand). c.word)) []) (filter_all (λ (c : Cand). not (is_empty c.word)) cands
    (list_all-weaker is_cand (λ c. not (is_empty c.word)) worded cands all))
    ∙ fold_new-fresh (λ (c : Cand). c.word) cands differ

-- Replies

module _
    (read : (c : Cand) → is_cand c ≡ true → item_alone (item c) ≡ Ok (Some c))
    (noted : (c : Cand) → is_cand c ≡ true → is_note (item c) ≡ true)
    (between : (texts : List (List ℕ)) → texts ≢ [] → list_all (lacks 0x2F) texts ≡ true
    → texts_at (0x2F ∷ flat_map with_slash texts) ≡ Some texts)
    (reading : List ℕ) (cands : List Cand) (some : cands ≢ []) (all : list_all is_cand cands ≡ true)
    (differ : texts_differ (words_of cands) ≡ true) where
  abbrev items : List (List ℕ)
  items = map item cands

  -- the line as characters, and its bytes
  abbrev text : List ℕ
  text = 0x31 ∷ 0x2F ∷ flat_map with_slash items

  abbrev line : List ℕ
  line = 0x31 ∷ 0x2F ∷ flat_map item_bytes items

  bytes_are : encode_utf8_all text ≡ line
  unfolding encode
  bytes_are = ap (λ bytes. 0x31 ∷ 0x2F ∷ bytes) (items_bytes items)

  notes : list_all is_note items ≡ true
  notes = list_all-map is_note item cands ∙ list_all-weaker is_cand (λ c. is_note (item c)) noted cands all

  -- none of it ends a line
  goes_on : lacks 10 line ≡ true
  goes_on =
      ap (lacks 10) (sym bytes_are)
      ∙ bytes_lack 10 (omega arith) text
      (each_passes is_note (λ c. not (c == 10)) with_slash (λ t e. note_lacks t e) items notes)
    where
      note_lacks : (t : List ℕ) → is_note t ≡ true → lacks 10 (with_slash t) ≡ true
      note_lacks t e = both_lack 10 t (0x2F ∷ []) (lacks-failing is_note_char 10 refl t e) refl

  no_return : without_return line ≡ line
  no_return =
      let (front, ends) = ends_in_slash items in
      let is : line ≡ (0x31 ∷ front) ++ 0x2F ∷ [] = ap (λ ys. 0x31 ∷ ys) ends in
      ap without_return is ∙ slash_stays (0x31 ∷ front) ∙ sym is

  some_item : items ≢ []
  some_item = by cands some
    where
      by : (cs : List Cand) → cs ≢ [] → map item cs ≢ []
      by [] none e = none refl
      by (c ∷ cs) is e = cc

  apart : list_all (lacks 0x2F) items ≡ true
  apart = list_all-weaker is_note (lacks 0x2F) (λ t e. lacks-failing is_note_char 0x2F refl t e) items notes

  -- the line tells the candidates, where its characters are
  by_line : scalars text ≡ true → told_by_line (Look reading) line ≡ Ok (Cands cands)
  unfolding told_by_line told_by_list texts_of_line told_by_texts
  by_line valid =
      let utf8 : IsUtf8 line = (text, (valid, bytes_are)) in
      let same : chars line ≡ text = ap chars (sym bytes_are) ∙ chars-encodes text valid in
      let told = items_told read 2 cands all in
      ap (λ b. if b then if_texts (Look reading) (texts_of_line line) else Err (BadReply (utf8_valid_len line)))
      (is_utf8-from_IsUtf8 line utf8)
      ∙ ap (λ cs. if_texts (Look reading) (then_at (past (codes "1") cs) texts_at)) same
      ∙ ap (if_texts (Look reading)) (between items some_item apart)
      ∙ ap (λ found. if_none_long found items) told.0
      ∙ ap (λ cs. Ok (Cands (cands_once cs))) told.1
      ∙ ap (λ cs. Ok (Cands cs)) (all_first cands all differ)

  -- and so does the reply
  pub reply_told : length (listed items) ≤ 4194304 → IsUtf8 (listed items)
      → told_by (Look reading) (listed items) ≡ Ok (Cands cands)
  unfolding told_by encode
  reply_told short utf8 =
      let end : encode_utf8_all (text ++ 10 ∷ []) ≡ listed items =
      encodes-append text (10 ∷ []) ∙ ap (λ bytes. bytes ++ 10 ∷ []) bytes_are in
      let valid : scalars text ≡ true =
      front_scalars text (10 ∷ [])
      (ap scalars (chars_from_encodes (text ++ 10 ∷ []) (listed items) utf8 end) ∙ scalars-chars (listed items) utf8) in
      let found : line_of (listed items) ≡ Ok (without_return line) =
      line_here (listed items) line [] (cut-at is_line_feed line 10 [] goes_on refl)
      (omega (arith, short, length-append line (10 ∷ []))) in
      ap (if_line (Look reading)) (found ∙ ap Ok no_return) ∙ by_line valid

-- what is sent for candidates, where there are any
sent : (bytes : List ℕ) (cands : List Cand) → cands ≢ []
    → reply_to (requests.Look bytes) (Some (Found cands)) ≡ listed (map item cands)
sent bytes [] some = absurd (some refl)
sent bytes (c ∷ cands) some = refl

pub found_told : (read : (c : Cand) → is_cand c ≡ true → item_alone (item c) ≡ Ok (Some c))
    (noted : (c : Cand) → is_cand c ≡ true → is_note (item c) ≡ true)
    (between : (texts : List (List ℕ)) → texts ≢ [] → list_all (lacks 0x2F) texts ≡ true
    → texts_at (0x2F ∷ flat_map with_slash texts) ≡ Some texts)
    (bytes reading : List ℕ) (cands : List Cand) → cands ≢ [] → list_all is_cand cands ≡ true
    → texts_differ (words_of cands) ≡ true → length (reply_to (requests.Look bytes) (Some (Found cands))) ≤ 4194304
    → IsUtf8 (reply_to (requests.Look bytes) (Some (Found cands)))
    → told_by (Look reading) (reply_to (requests.Look bytes) (Some (Found cands))) ≡ Ok (Cands cands)
found_told read noted between bytes reading cands some all differ short utf8 =
    let is = sent bytes cands some in
    ap (told_by (Look reading)) is
    ∙ reply_told read noted between reading cands some all differ (subst (λ sent'. length sent' ≤ 4194304) is short)
    (subst IsUtf8 is utf8)
