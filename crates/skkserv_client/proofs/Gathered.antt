-- Candidates and readings that are gathered one by one are those of all texts.
use Rattle.std.proofs.Common.{◌≡◌, ◌∙◌, ◌+◌, ℕ, Bool, true, false, not, if◌then◌else◌, Option, None, Some, Result, Ok}
use Rattle.std.proofs.Common.{Err}
use Rattle.std.proofs.Common.{◌<◌, ◌^◌, IsErrAnd, arith, inl, inr, rules}
use Rattle.std.proofs.Common.{List, [], ◌∷◌, ◌++◌, ap, encode_utf8_all, length, length-append, map, refl, subst, sym}
use lib.Utf8.{encode}
use Rattle.std.specs.List.{filter, flat_map, fold, list_all}
use Rattle.std.proofs.lemmas.Grind.{common_steps}
use Rattle.std.proofs.lemmas.Str.{encodes-append}
use Rattle.skk_text.specs.Lists.{is_empty}
use Rattle.skk_text.specs.Results.{AnswersUnless}
use Rattle.skk_text.specs.Text.{byte_len}
use Rattle.skk_calls.specs.Canonical.{with_slash}
use Rattle.skk_calls.specs.Rows.{Cand, is_cand}
use Rattle.word_sets.specs.FirstLaws.{first_of_each-fold, with_new-all, with_new-map}
use Rattle.word_sets.specs.Firsts.{with_new}
use Rattle.word_sets.specs.Strings.{as_cand}
use Rattle.dict_format.specs.declared.single.ItemFault.{ItemFault}
use Rattle.dict_format.specs.declared.single.ItemFault.TheVariants.{Long, Memory}
use Rattle.dict_format.specs.Building.{cands_once}
use Rattle.dict_format.specs.ItemsAlone.{cand_alone, if_worded, is_long, item_alone}
use Rattle.dict_format.specs.RowOfItems.{words_once}
use Rattle.skkserv_client.specs.declared.question.Ask.{Ask}
use Rattle.skkserv_client.specs.declared.question.Ask.TheVariants.{Look}
use Rattle.skkserv_client.specs.declared.told.AskFault.{AskFault}
use Rattle.skkserv_client.specs.declared.told.AskFault.TheVariants as faults
use Rattle.skkserv_client.specs.declared.told.AskFault.TheVariants.{BadReply}
use Rattle.skkserv_client.specs.declared.told.Told.{Told}
use Rattle.skkserv_client.specs.declared.told.Told.TheVariants.{Cands}
use Rattle.skkserv_client.specs.Gathering.{AddsCand, GivesCands, gathered, with_cand, with_reading}
use Rattle.skkserv_client.specs.Replies.{first_long, if_none_long, told_by_texts}

-- One by one

module _ {X : Type 0} (text_of : X → List ℕ) where
  -- items with one more, where its text is not empty and a new one
  abbrev with_text : List X → X → List X
  with_text xs y = if is_empty (text_of y) then xs else with_new text_of xs y

  -- those whose texts are not empty are added
  added : (xs ys : List X) → fold with_text xs ys
      ≡ fold (with_new text_of) xs (filter (λ y. not (is_empty (text_of y))) ys)
  added xs [] = refl
  added xs (y ∷ ys) = by (is_empty (text_of y)) (added xs ys) (added (with_new text_of xs y) ys)
    where
      by : (b : Bool)
          → fold with_text xs ys ≡ fold (with_new text_of) xs (filter (λ z. not (is_empty (text_of z))) ys)
          → fold with_text (with_new text_of xs y) ys
          ≡ fold (with_new text_of) (with_new text_of xs y) (filter (λ z. not (is_empty (text_of z))) ys)
          → fold with_text (if b then xs else with_new text_of xs y) ys
          ≡ fold (with_new text_of) xs
          (if not b
          then y ∷ filter (λ z. not (is_empty (text_of z))) ys
          else filter (λ z. not (is_empty (text_of z))) ys)
      by true old new = old
      by false old new = new

-- the readings of texts
pub readings_added : (texts : List (List ℕ)) → words_once texts ≡ fold with_reading [] texts
readings_added texts =
    first_of_each-fold (λ reading. reading) (filter (λ text. not (is_empty text)) texts)
    ∙ sym (added (λ reading. reading) [] texts)

-- the candidates of all
pub cands_added : (cands : List Cand) → cands_once cands ≡ fold with_cand [] cands
cands_added cands =
    first_of_each-fold (λ (cand : Cand). cand.word) (filter (λ cand. not (is_empty cand.word)) cands)
    ∙ sym (added (λ (cand : Cand). cand.word) [] cands)

-- Texts that are too long

-- candidates, unless a text is too long
abbrev unless_long : Option ℕ → List Cand → Result (List Cand) AskFault
unless_long None cands = Ok cands
unless_long (Some at) cands = Err (BadReply at)

gathered-all : (at : ℕ) (cands : List Cand) (texts : List (List ℕ)) → gathered at cands texts
    ≡ unless_long (first_long at texts) (fold with_cand cands (map cand_alone texts))
gathered-all at cands [] = refl
gathered-all at cands (text ∷ texts) =
    by (is_long (cand_alone text))
    (gathered-all (at + (byte_len text + 1)) (with_cand cands (cand_alone text)) texts)
  where
    by : (b : Bool)
        → gathered (at + (byte_len text + 1)) (with_cand cands (cand_alone text)) texts
        ≡ unless_long (first_long (at + (byte_len text + 1)) texts)
        (fold with_cand (with_cand cands (cand_alone text)) (map cand_alone texts))
        → (if b then Err (BadReply at)
        else gathered (at + (byte_len text + 1)) (with_cand cands (cand_alone text)) texts)
        ≡ unless_long (if b then Some at else first_long (at + (byte_len text + 1)) texts)
        (fold with_cand (with_cand cands (cand_alone text)) (map cand_alone texts))
    by true later = refl
    by false later = later

-- what was gathered is told
pub told-gathered : (texts : List (List ℕ)) (cands : List Cand) → gathered 2 [] texts ≡ Ok cands
    → if_none_long (first_long 2 texts) texts ≡ Ok (Cands cands)
told-gathered texts cands e =
    by (first_long 2 texts)
    (sym (gathered-all 2 [] texts
    ∙ ap (unless_long (first_long 2 texts)) (sym (cands_added (map cand_alone texts)))) ∙ e)
  where
    by : (found : Option ℕ) → unless_long found (cands_once (map cand_alone texts)) ≡ Ok cands
        → if_none_long found texts ≡ Ok (Cands cands)
    by None is = let same : cands_once (map cand_alone texts) ≡ cands = cc in ap (λ all. Ok (Cands all)) same
    by (Some at) is = cc

pub fault-gathered : (texts : List (List ℕ)) (fault : AskFault) → gathered 2 [] texts ≡ Err fault
    → if_none_long (first_long 2 texts) texts ≡ Err fault
fault-gathered texts fault e =
    by (first_long 2 texts) (sym (gathered-all 2 [] texts) ∙ e)
  where
    by : (found : Option ℕ) → unless_long found (fold with_cand [] (map cand_alone texts)) ≡ Err fault
        → if_none_long found texts ≡ Err fault
    by None is = cc
    by (Some at) is = let same : BadReply at ≡ fault = cc in ap Err same

-- One text more

-- a text that is added
pub gathered-one : (at : ℕ) (cands cands' : List Cand) (text : List ℕ) (texts : List (List ℕ))
    → AddsCand text cands cands'
    → gathered at cands (text ∷ texts) ≡ gathered (at + (byte_len text + 1)) cands' texts
gathered-one at cands cands' text texts is =
    ap (λ b. if b then Err (BadReply at)
    else gathered (at + (byte_len text + 1)) (with_cand cands (cand_alone text)) texts) is.short
    ∙ ap (λ cs. gathered (at + (byte_len text + 1)) cs texts) (sym is.added)

-- one that is too long
pub gathered-long : (at : ℕ) (cands : List Cand) (text : List ℕ) (texts : List (List ℕ))
    → is_long (cand_alone text) ≡ true → gathered at cands (text ∷ texts) ≡ Err (BadReply at)
gathered-long at cands text texts long =
    ap (λ b. if b then Err (BadReply at)
    else gathered (at + (byte_len text + 1)) (with_cand cands (cand_alone text)) texts) long

-- the bytes of texts, each with its slash
pub bytes_behind : (text : List ℕ) (texts : List (List ℕ)) → byte_len (flat_map with_slash (text ∷ texts))
    ≡ (byte_len text + 1) + byte_len (flat_map with_slash texts)
unfolding encode
bytes_behind text texts =
    ap length (encodes-append (with_slash text) (flat_map with_slash texts)
    ∙ ap (λ bytes. bytes ++ encode_utf8_all (flat_map with_slash texts)) (encodes-append text (0x2F ∷ [])))
    ∙ length-append (encode_utf8_all text ++ 0x2F ∷ []) (encode_utf8_all (flat_map with_slash texts))
    ∙ ap (λ n. n + byte_len (flat_map with_slash texts)) (length-append (encode_utf8_all text) (0x2F ∷ []))

-- What is read of a text

-- what a text by itself is read as
alone_is : (text : List ℕ) (wanted : Result (Option Cand) ItemFault) → item_alone text ≡ wanted
    → (if is_long (cand_alone text) then Err Long else Ok (if_worded (cand_alone text))) ≡ wanted
unfolding item_alone
alone_is text wanted e = e

module _ (text : List ℕ) (cands cands' : List Cand) where
  -- a candidate, which is added where its word is a new one
  pub adds_some : (cand : Cand) → item_alone text ≡ Ok (Some cand) → is_cand cand ≡ true
      → cands' ≡ with_new (λ (c : Cand). c.word) cands cand → AddsCand text cands cands'
  adds_some cand e valid is =
      by (is_long (cand_alone text)) (is_empty (cand_alone text).word) refl refl (alone_is text _ e)
    where
      by : (long empty : Bool) → is_long (cand_alone text) ≡ long → is_empty (cand_alone text).word ≡ empty
          → (if long then Err Long else Ok (if empty then None else Some (cand_alone text))) ≡ Ok (Some cand)
          → AddsCand text cands cands'
      by true empty l m f = cc
      by false true l m f = cc
      by false false l m f =
          let same : cand_alone text ≡ cand = cc in
          record {
            short = l;
            added =
                is ∙ ap (with_new (λ (c : Cand). c.word) cands) (sym same)
                ∙ sym (ap (λ b. if b then cands else with_new (λ (c : Cand). c.word) cands (cand_alone text)) m);
            valid = λ all.
                subst (λ cs. list_all is_cand cs ≡ true) (sym is)
                (with_new-all (λ (c : Cand). c.word) is_cand cands cand all valid);
          }

  -- none, where its word is empty
  pub adds_none : item_alone text ≡ Ok None → cands' ≡ cands → AddsCand text cands cands'
  adds_none e is = by (is_long (cand_alone text)) (is_empty (cand_alone text).word) refl refl (alone_is text _ e)
    where
      by : (long empty : Bool) → is_long (cand_alone text) ≡ long → is_empty (cand_alone text).word ≡ empty
          → (if long then Err Long else Ok (if empty then None else Some (cand_alone text))) ≡ Ok None
          → AddsCand text cands cands'
      by true empty l m f = cc
      by false false l m f = cc
      by false true l m f = record {
        short = l;
        added = is ∙ sym (ap (λ b. if b then cands else with_new (λ (c : Cand). c.word) cands (cand_alone text)) m);
        valid = λ all. subst (λ cs. list_all is_cand cs ≡ true) (sym is) all;
      }

-- one that is too long
pub is_too_long : (text : List ℕ) → item_alone text ≡ Err Long → is_long (cand_alone text) ≡ true
is_too_long text e = by (is_long (cand_alone text)) refl (alone_is text _ e)
  where
    by : (long : Bool) → is_long (cand_alone text) ≡ long
        → (if long then Err Long else Ok (if_worded (cand_alone text))) ≡ Err Long → is_long (cand_alone text) ≡ true
    by true l f = l
    by false l f = cc

-- The result of reading a text

pub read_as : (text : List ℕ) (result : Result (Option Cand) ItemFault) (found wanted : Option Cand)
    → AnswersUnless Memory result (item_alone text) → result ≡ Ok found → found ≡ wanted → item_alone text ≡ Ok wanted
read_as text result found wanted (inl memory) e f =
    let wrong : ◌≡◌ {A = Result (Option Cand) ItemFault} (Ok found) (Err Memory) = sym e ∙ memory in absurd (cc)
read_as text result found wanted (inr is) e f = sym is ∙ e ∙ ap Ok f

pub read_long : (text : List ℕ) (result : Result (Option Cand) ItemFault) (fault : ItemFault)
    → AnswersUnless Memory result (item_alone text) → result ≡ Err fault → fault ≡ Long → item_alone text ≡ Err Long
read_long text result fault (inl memory) e f =
    let wrong : ◌≡◌ {A = Result (Option Cand) ItemFault} (Err Long) (Err Memory) = sym (e ∙ ap Err f) ∙ memory in
    absurd (cc)
read_long text result fault (inr is) e f = sym is ∙ e ∙ ap Err f

-- What is inserted

pub inserted : (pairs : List (List ℕ × List ℕ)) (cand : Cand) (word note : List ℕ) → word ≡ cand.word
    → note ≡ cand.note → map as_cand (with_new (λ pair. pair.0) pairs (word, note))
    ≡ with_new (λ (c : Cand). c.word) (map as_cand pairs) cand
inserted pairs cand word note w n =
    with_new-map as_cand (λ (c : Cand). c.word) pairs (word, note)
    ∙ ap (with_new (λ (c : Cand). c.word) (map as_cand pairs)) (rw (w, n) refl)

pub ruleset insert_more = (common_steps, inserted)

-- Places

-- what stands behind an item has room where the item had it
pub room_behind : (at : ℕ) (item text : List ℕ) (left texts : List (List ℕ)) → left ≡ text ∷ texts → item ≡ text
    → at + byte_len (flat_map with_slash left) < 2 ^ 63 + 2
    → (at + (byte_len item + 1)) + byte_len (flat_map with_slash texts) < 2 ^ 63 + 2
room_behind at item text left texts is same room =
    omega (
      arith,
      room,
      ap (λ (ts : List (List ℕ)). byte_len (flat_map with_slash ts)) is,
      ap byte_len same,
      bytes_behind text texts,
    )

-- What texts tell

pub told_cands : (what : Ask) (reading : List ℕ) (texts : List (List ℕ)) (cands : List Cand) → what ≡ Look reading
    → Ok cands ≡ gathered 2 [] texts → AnswersUnless faults.Memory (Ok (Cands cands)) (told_by_texts what texts)
unfolding told_by_texts
told_cands what reading texts cands is e =
    inr (sym (ap (λ w. told_by_texts w texts) is ∙ told-gathered texts cands (sym e)))

told_fault : (what : Ask) (reading : List ℕ) (texts : List (List ℕ)) (fault : AskFault) → what ≡ Look reading
    → GivesCands texts (Err fault) → AnswersUnless {T = Told} faults.Memory (Err fault) (told_by_texts what texts)
unfolding told_by_texts
told_fault what reading texts faults.Memory is e = inl refl
told_fault what reading texts faults.LinkFault is e =
    inr (sym (ap (λ w. told_by_texts w texts) is ∙ fault-gathered texts faults.LinkFault (sym e)))
told_fault what reading texts faults.TooLong is e =
    inr (sym (ap (λ w. told_by_texts w texts) is ∙ fault-gathered texts faults.TooLong (sym e)))
told_fault what reading texts (faults.Ended read) is e =
    inr (sym (ap (λ w. told_by_texts w texts) is ∙ fault-gathered texts (faults.Ended read) (sym e)))
told_fault what reading texts faults.Refused is e =
    inr (sym (ap (λ w. told_by_texts w texts) is ∙ fault-gathered texts faults.Refused (sym e)))
told_fault what reading texts (faults.BadReply at) is e =
    inr (sym (ap (λ w. told_by_texts w texts) is ∙ fault-gathered texts (faults.BadReply at) (sym e)))

pub told_failed : (what : Ask) (reading : List ℕ) (texts : List (List ℕ)) (result : Result Told AskFault)
    (fault : AskFault) → IsErrAnd result (λ handed. handed ≡ fault) → what ≡ Look reading
    → GivesCands texts (Err fault) → AnswersUnless faults.Memory result (told_by_texts what texts)
told_failed what reading texts (Ok told) fault handed is e = absurd (search (rules, handed))
told_failed what reading texts (Err other) fault handed is e =
    subst (λ (f : AskFault). AnswersUnless {T = Told} faults.Memory (Err f) (told_by_texts what texts)) (sym handed)
    (told_fault what reading texts fault is e)
