-- What an open reading keeps, and the steps that begin an okurigana or end a prefix.
use Rattle.std.proofs.Common.{◌≡◌, ◌∙◌, ℕ, true, false, ◌&&◌, not, List, [], ◌∷◌, ◌++◌, Option, None, Some, Result, Ok}
use Rattle.std.proofs.Common.{Err, sym, ap, refl, arith, if◌then◌else◌}
use Rattle.std.specs.Result.{IsOk, IsErr}
use Rattle.skk_text.specs.Lists.{is_empty}
use Rattle.skk_text.specs.Text.{without_last}
use Rattle.skk_text.specs.declared.notice.Notice.{Notice}
use Rattle.skk_calls.specs.Rows.{is_letter}
use Rattle.romaji_rules.specs.declared.out.Out.{Out}
use Rattle.romaji_rules.specs.declared.rule.Rule.{Rule}
use Rattle.romaji_rules.specs.Typed.{fed}
use Rattle.reading_state.specs.Puts.{BegunOkuri, Reading, Put, may_read, may_end, fits_reading, later_notice, refusal}
use Rattle.reading_state.specs.Puts.{put, unless_refused}
use Rattle.reading_state.specs.Reading.{flush, begin_okuri, ends_prefix, feed, prefix_step, put_after, with_okuri}
use Rattle.reading_state.specs.Reading.{with_pending}
use Rattle.reading_state.specs.declared.reading_do.ReadingThen.TheVariants.{Convert}
use Rattle.reading_state.proofs.Texts.{may_end-without_last}

-- what an open reading keeps where an okurigana was begun
pub record Kept (text : List ℕ) (begun : BegunOkuri) : Type 0 where
  pub may : may_read text ≡ true
  pub letter : is_letter (begun.letter ∷ []) ≡ true
  pub kana : may_end begun.text ≡ true
  pub some : is_empty text ≡ false

pub kept : (text : List ℕ) (okuri : Option BegunOkuri) (begun : BegunOkuri)
    → (may_read text && fits_reading text okuri) ≡ true
    → okuri ≡ Some begun → Kept text begun
kept text okuri begun is e = grind arith

-- an okurigana without its last kana may be begun too
pub kept-shortened : (text : List ℕ) (okuri : Option BegunOkuri) (begun : BegunOkuri)
    → (may_read text && fits_reading text okuri) ≡ true → okuri ≡ Some begun
    → (may_read text && fits_reading text (Some (record { letter = begun.letter; text = without_last begun.text })))
    ≡ true
kept-shortened text okuri begun is e = grind (arith, kept text okuri begun, may_end-without_last begun.text)

-- an okurigana that stands behind a reading may stand behind another that is not empty
pub refitted : (old new : List ℕ) (okuri : Option BegunOkuri) → may_read new ≡ true → is_empty new ≡ false
    → (may_read old && fits_reading old okuri) ≡ true → (may_read new && fits_reading new okuri) ≡ true
refitted old new None may some is = grind arith
refitted old new (Some begun) may some is = grind arith

-- a result that is no fault is a value
pub ok_unless : {A E : Type 0} (result : Result A E) → (IsErr result → ⊥) → IsOk result
ok_unless (Ok value) none = refl
ok_unless (Err fault) none = absurd (none refl)

-- `>` ends a prefix behind a flush that leaves a reading
ends : (okuri : Option BegunOkuri) (flush : Put) → okuri ≡ None → is_empty flush.reading.text ≡ false
    → ends_prefix okuri flush ≡ true
ends None flush e some = ap not some
ends (Some begun) flush e some = cc

-- a reading that a flush leaves, where no okurigana was begun
abbrev pub flushed_to : Reading → List ℕ → Notice → Put
flushed_to reading added notice =
    record {
      reading = record {
        text = reading.text ++ added;
        is_abbrev = reading.is_abbrev;
        okuri = None;
        pending = [];
        completions = reading.completions;
      };
      notice = notice;
    }

-- a reading as its fields are seen, which a flush leaves with this behind its text and this notice
module _ (rules : List Rule) (reading seen : Reading) (view : seen ≡ reading) (added : List ℕ) (notice : Notice)
    (flushed : flush rules reading ≡ flushed_to reading added notice) where
  flushed_seen : flush rules reading ≡ flushed_to seen added notice
  flushed_seen = flushed ∙ ap (λ r. flushed_to r added notice) (sym view)

  -- `>` ends a prefix behind a flush that leaves a reading, and is put
  pub prefix_ended : (whole after pending : List ℕ) (last : Notice) → seen.okuri ≡ None
      → is_empty (seen.text ++ added) ≡ false
      → last ≡ later_notice notice (refusal 254 may_read (seen.text ++ added) (0x3E ∷ []))
      → seen.text ++ whole
      ≡ unless_refused (refusal 254 may_read (seen.text ++ added) (0x3E ∷ [])) (seen.text ++ added) (0x3E ∷ [])
      → after ≡ seen.text ++ whole → pending ≡ []
      → (ends_prefix reading.okuri (flush rules reading) ≡ true)
      × (prefix_step (flush rules reading)
      ≡ record {
        reading = record {
          text = after;
          is_abbrev = seen.is_abbrev;
          okuri = seen.okuri;
          pending = pending;
          completions = seen.completions;
        };
        done = record { notice = last; then = Convert };
      })
  prefix_ended whole after pending last none some is_last is_whole is_after nothing = (
    ends reading.okuri (flush rules reading) (ap (λ (r : Reading). r.okuri) (sym view) ∙ none)
        (ap (λ (put : Put). is_empty put.reading.text) flushed_seen ∙ some),
    ap prefix_step flushed_seen ∙ rw (is_last, is_after, is_whole, none, nothing) refl,
  )

  -- an okurigana begins behind a flush that leaves a reading, and its letter is read
  pub okuri_begun : (c : ℕ) (before empty after pending kana piece : List ℕ) (out : Out) (second last : Notice)
      → is_empty (seen.text ++ added) ≡ false
      → before ≡ [] → fed rules before c ≡ record { pending = pending; out = out } → piece ≡ out.hira
      → empty ≡ [] → second ≡ refusal 60 may_end empty piece → empty ++ kana ≡ unless_refused second empty piece
      → after ≡ seen.text ++ added → last ≡ later_notice notice second
      → begin_okuri rules (flush rules reading) c
      ≡ record {
        reading = record {
          text = after;
          is_abbrev = seen.is_abbrev;
          okuri = Some (record { letter = c; text = kana });
          pending = pending;
          completions = seen.completions;
        };
        notice = last;
      }
  okuri_begun c before empty after pending kana piece out second last some is_before is_fed is_piece is_empty is_second
      is_kana is_after is_last =
      let alone : fed rules [] c ≡ record { pending = pending; out = out } =
      ap (λ b. fed rules b c) (sym is_before) ∙ is_fed in
      let refused : second ≡ refusal 60 may_end [] out.hira =
      is_second ∙ ap (λ e. refusal 60 may_end e piece) is_empty ∙ ap (refusal 60 may_end []) is_piece in
      let first : kana ≡ unless_refused second [] out.hira =
      ap (λ e. e ++ kana) (sym is_empty) ∙ is_kana ∙ ap (λ e. unless_refused second e piece) is_empty
      ∙ ap (unless_refused second []) is_piece in
      ap (λ f. begin_okuri rules f c) flushed_seen ∙ rw (some, alone, is_after, is_last, first, refused) refl

-- an empty list joined of two is the first of them
joined_none : {X : Type 0} (xs ys : List X) → is_empty (xs ++ ys) ≡ true → xs ++ ys ≡ xs
joined_none [] [] none = refl
joined_none [] (y ∷ ys) none = cc none
joined_none (x ∷ xs) ys none = cc none

-- behind a flush that leaves an empty reading the letter of an okurigana is read as a character
pub letter_read : (rules : List Rule) (reading : Reading) (added : List ℕ) (notice : Notice)
    → flush rules reading ≡ flushed_to reading added notice → reading.okuri ≡ None
    → is_empty (reading.text ++ added) ≡ true
    → (c : ℕ) (before pending piece : List ℕ) (out : Out) (after : Reading) (second last : Notice) → before ≡ []
    → fed rules before c ≡ record { pending = pending; out = out } → piece ≡ out.hira
    → put (with_pending reading pending) piece ≡ record { reading = after; notice = second }
    → last ≡ later_notice notice second
    → begin_okuri rules (flush rules reading) c ≡ record { reading = after; notice = last }
letter_read rules reading added notice flushed none empty c before pending piece out after second last is_before
    is_fed is_piece is_put is_last =
    let alone : fed rules [] c ≡ record { pending = pending; out = out } =
    ap (λ b. fed rules b c) (sym is_before) ∙ is_fed in
    let seen : List ℕ → Option BegunOkuri → Reading = λ text okuri. record {
      text = text;
      is_abbrev = reading.is_abbrev;
      okuri = okuri;
      pending = pending;
      completions = reading.completions;
    } in
    let same : seen (reading.text ++ added) None ≡ seen reading.text reading.okuri =
    ap (λ t. seen t None) (joined_none reading.text added empty) ∙ ap (seen reading.text) (sym none) in
    let read : put (seen (reading.text ++ added) None) out.hira ≡ record { reading = after; notice = second } =
    ap (λ r. put r out.hira) same ∙ ap (put (seen reading.text reading.okuri)) (sym is_piece) ∙ is_put in
    let left = flushed_to reading added notice in
    ap (λ f. begin_okuri rules f c) flushed
    ∙ ap (λ b. if b then put_after left (feed rules left.reading c)
    else put_after left (feed rules (with_okuri left.reading c []) c)) empty
    ∙ ap (λ f. put_after left (put (with_pending left.reading f.pending) f.out.hira)) alone
    ∙ ap (put_after left) read ∙ ap (λ n. record { reading = after; notice = n }) (sym is_last)
