-- What a line tells that begins with `1`, by whether it is UTF-8.
use Rattle.std.proofs.Common.{◌≡◌, ◌∙◌, ◌<◌, ◌^◌, ◌==◌, ℕ, Bool, true, false, if◌then◌else◌, None, Some, Result, Err}
use Rattle.std.proofs.Common.{List, [], ◌∷◌, encode_utf8_all, length, ap, arith, inr, refl, subst, sym}
use lib.Utf8.{encode}
use Rattle.std.specs.List.{flat_map}
use Rattle.std.specs.Str.{IsUtf8, chars, is_utf8}
use Rattle.std.specs.Str.Lossy.{utf8_valid_len}
use Rattle.std.proofs.lemmas.Bool.{eqb-true}
use Rattle.std.proofs.lemmas.Str.{IsUtf8-from_is_utf8, encodes-chars, is_utf8-from_IsUtf8}
use Rattle.skk_text.specs.Results.{AnswersUnless}
use Rattle.skk_text.specs.Text.{byte_len}
use Rattle.skk_calls.specs.Canonical.{with_slash}
use Rattle.exact_readers.specs.Formats.{past}
use Rattle.skkserv_client.specs.declared.question.Ask.{Ask}
use Rattle.skkserv_client.specs.declared.told.AskFault.{AskFault}
use Rattle.skkserv_client.specs.declared.told.AskFault.TheVariants as faults
use Rattle.skkserv_client.specs.declared.told.Told.{Told}
use Rattle.skkserv_client.specs.Replies.{if_texts, texts_of_line, told_by_list}

-- the test fails where bytes are no text
no-text : (bytes : List ℕ) → ¬ IsUtf8 bytes → is_utf8 bytes ≡ false
no-text bytes none = grind (arith, none, IsUtf8-from_is_utf8 bytes)

module _ (what : Ask) (line : List ℕ) where
  pub told-list : (read : List ℕ) (result : Result Told AskFault) → read ≡ line → IsUtf8 line
      → AnswersUnless faults.Memory result (if_texts what (texts_of_line read))
      → AnswersUnless faults.Memory result (told_by_list what line)
  unfolding told_by_list
  told-list read result same valid answers =
      subst (AnswersUnless faults.Memory result)
      (ap (λ l. if_texts what (texts_of_line l)) same
      ∙ sym (ap (λ b. if b then if_texts what (texts_of_line line) else Err (faults.BadReply (utf8_valid_len line)))
      (is_utf8-from_IsUtf8 line valid))) answers

  pub told-no-text : (at : ℕ) → ¬ IsUtf8 line → at ≡ utf8_valid_len line
      → AnswersUnless faults.Memory (Err (faults.BadReply at)) (told_by_list what line)
  unfolding told_by_list
  told-no-text at none is =
      inr (ap (λ n. Err (faults.BadReply n)) is
      ∙ sym (ap (λ b. if b then if_texts what (texts_of_line line) else Err (faults.BadReply (utf8_valid_len line)))
      (no-text line none)))

-- what stands behind `1` is what comes first
past-one : (line body : List ℕ) → Some body ≡ past (0x31 ∷ []) line → line ≡ 0x31 ∷ body
past-one [] body e = cc
past-one (c ∷ line) body e = by (c == 0x31) refl e
  where
    by : (b : Bool) → (c == 0x31) ≡ b → Some body ≡ (if b then Some line else None) → c ∷ line ≡ 0x31 ∷ body
    by true t f =
        let same : body ≡ line = cc in
        ap (λ d. d ∷ line) (eqb-true c 0x31 t) ∙ ap (λ ds. 0x31 ∷ ds) (sym same)
    by false t f = cc

-- the texts of a line are no longer than it is
pub texts-fit : (line body : List ℕ) (texts : List (List ℕ)) → IsUtf8 line → length line < 2 ^ 63
    → Some body ≡ past (0x31 ∷ []) (chars line) → body ≡ 0x2F ∷ flat_map with_slash texts
    → byte_len (flat_map with_slash texts) < 2 ^ 63
unfolding encode
texts-fit line body texts utf8 short begins is =
    let bytes : line ≡ 0x31 ∷ 0x2F ∷ encode_utf8_all (flat_map with_slash texts) =
    sym (encodes-chars line utf8)
    ∙ ap encode_utf8_all (past-one (chars line) body begins ∙ ap (λ cs. 0x31 ∷ cs) is) in
    omega (arith, short, ap length bytes)
