-- A feeder that is fed more bytes.
use Rattle.std.proofs.Common.{◌≡◌, ◌<◌, ◌≤◌, ℕ, ◌+◌, ◌-◌, min, None, Some, List, [], ◌∷◌, ◌++◌, length}
use Rattle.std.proofs.Common.{refl, sym, ap, ◌∙◌, subst, arith, length-append, append_assoc, append-nil, inl, inr, ◌⊎◌}
use Rattle.std.specs.Option.{option_map}
use Rattle.std.proofs.lemmas.Grind.{flat_map-append}
use Rattle.skk_text.specs.Counts.{last_count}
use Rattle.exact_readers.specs.Cuts.{cut}
use Rattle.exact_readers.specs.CutLaws.{cut-nowhere}
use Rattle.exact_readers.specs.Formats.{SpellsMany}
use Rattle.exact_readers.specs.ManyLaws.{taken-some, taken-complete, many-append, many-one}
use Rattle.cut_input.specs.Pieces.{GoesOn}
use Rattle.cut_input.specs.PieceLaws.{cut-behind, cut-parts, goes-on-behind, goes-on-begun, long-behind}
use Rattle.skkserv_proto.specs.declared.command.CommandByte.TheVariants as commands
use Rattle.skkserv_proto.specs.declared.command.Wants.{Wants}
use Rattle.skkserv_proto.specs.declared.front.Rest.{Rest}
use Rattle.skkserv_proto.specs.declared.front.Rest.TheVariants as rests
use Rattle.skkserv_proto.specs.declared.next.Next.TheVariants as nexts
use Rattle.skkserv_proto.specs.declared.place.RequestPlace.{RequestPlace}
use Rattle.skkserv_proto.specs.declared.place.RequestPlace.TheVariants as places
use Rattle.skkserv_proto.specs.declared.request.Request.{Request}
use Rattle.skkserv_proto.specs.declared.request.Request.TheVariants.{End}
use Rattle.skkserv_proto.specs.Feeding.{Feeding, IsKept, EndsAt, Fed, Reads, ReadsTo, with_place}
use Rattle.skkserv_proto.specs.Fronts.{IsRest, IsPlaceOf, asked_last}
use Rattle.skkserv_proto.specs.Requests.{IsOpen, command_at, ends_reading, longest_reading, asking, token, tokens_of}
use Rattle.skkserv_proto.specs.Requests.{end_in}
use Rattle.skkserv_proto.specs.Requests.{all_asked, requests, reading_in, bad_in, first_bad, bad_at}
use Rattle.skkserv_proto.proofs.Tokens.{token-exact, step-reading, step-open, step-end, step-long, bad-long, bad-open}
use Rattle.skkserv_proto.proofs.Tokens.{bad-end, is-bad, requests-on, bad-on, no-tokens, bad-here, end-stays, bad-stays}
use Rattle.skkserv_proto.proofs.Tokens.{goes-on, within as within-rest, requests-here}

-- What is kept

-- what is kept is no end, but where the connection ended
no-end-command : (rest : List ℕ) → rest ≡ [] → end_in rest ≡ []
no-end-command rest e = ap end_in e

no-end-reading : (byte : ℕ) (wants : Wants) (text : List ℕ) → command_at byte ≡ commands.Reading wants
    → end_in (byte ∷ text) ≡ []
no-end-reading byte wants text e = rw e refl

-- counts
counted : (bytes fed : List ℕ) (count : ℕ) → count ≡ min (length bytes) last_count
    → min (count + length fed) last_count ≡ min (length (bytes ++ fed)) last_count
counted bytes fed count e = omega (arith, e, length-append bytes fed)

-- Places

-- where the bytes behind the last token end, with more behind them, all end
ends-on : (bytes fed : List ℕ) (count : ℕ) (place : RequestPlace) → count ≡ min (length bytes) last_count
    → EndsAt (length (tokens_of bytes).1) count ((tokens_of bytes).1 ++ fed) place → EndsAt 0 0 (bytes ++ fed) place
ends-on bytes fed count place e ends = by place ends
  where
    none : first_bad ((tokens_of bytes).1 ++ fed) ≡ None → first_bad (bytes ++ fed) ≡ None
    none f =
        bad-on bytes fed ∙ ap (option_map (λ at. length bytes - length (tokens_of bytes).1 + at)) f

    by : (place : RequestPlace) → EndsAt (length (tokens_of bytes).1) count ((tokens_of bytes).1 ++ fed) place
        → EndsAt 0 0 (bytes ++ fed) place
    by places.Command is =
        (none is.0, subst (IsKept places.Command) (sym (ap (λ parts. parts.1) (goes-on bytes fed))) is.1)
    by (places.Reading wants text) is =
        (none is.0, subst (IsKept (places.Reading wants text)) (sym (ap (λ parts. parts.1) (goes-on bytes fed))) is.1)
    by places.Ended is =
        (none is.0, subst (IsKept places.Ended) (sym (ap (λ parts. parts.1) (goes-on bytes fed))) is.1)
    by (places.Bad at) (more, f, g) = (
      length bytes + more,
      bad-on bytes fed ∙ ap (option_map (λ at. length bytes - length (tokens_of bytes).1 + at)) f
          ∙ ap Some (omega (arith, within-rest bytes)),
      omega (arith, e, g),
    )

-- where bytes end behind one token more, all end
ends-behind : (bytes behind : List ℕ) (skipped count more : ℕ) (place : RequestPlace)
    → (tokens_of bytes).1 ≡ (tokens_of behind).1 → length bytes ≡ skipped + more + length behind
    → EndsAt 0 (min (count + more) last_count) behind place → EndsAt skipped count bytes place
ends-behind bytes behind skipped count more place e long ends = by place ends
  where
    bad : first_bad bytes ≡ option_map (λ at. skipped + more + at) (first_bad behind)
    bad =
        ap (λ rest. option_map (λ at. length bytes - length rest + at) (bad_in rest)) e
        ∙ grind (arith, within-rest behind)

    none : first_bad behind ≡ None → first_bad bytes ≡ None
    none f = bad ∙ ap (option_map (λ at. skipped + more + at)) f

    by : (place : RequestPlace) → EndsAt 0 (min (count + more) last_count) behind place
        → EndsAt skipped count bytes place
    by places.Command is = (none is.0, subst (IsKept places.Command) (sym e) is.1)
    by (places.Reading wants text) is = (none is.0, subst (IsKept (places.Reading wants text)) (sym e) is.1)
    by places.Ended is = (none is.0, subst (IsKept places.Ended) (sym e) is.1)
    by (places.Bad at) (later, f, g) = (
      more + later,
      bad ∙ ap (option_map (λ at. skipped + more + at)) f ∙ ap Some (omega arith),
      omega (arith, g),
    )

-- Feeding

-- a feeder goes on by what stands behind the last token
reads-kept : (feeder : Feeding) (fed : List ℕ) (place : RequestPlace) (more : List Request)
    → ((before : List ℕ) → Fed before feeder → (end_in (tokens_of before).1 ≡ [])
    × (more ≡ requests ((tokens_of before).1 ++ fed))
    × EndsAt (length (tokens_of before).1) feeder.fed ((tokens_of before).1 ++ fed) place)
    → Reads feeder fed (with_place feeder fed place) more
reads-kept feeder fed place more how before was =
    let (none, asked, ends) = how before was in (
      (ends-on before fed feeder.fed place was.1 ends, counted before fed feeder.fed was.1),
      requests-on before fed none ∙ ap (λ ys. requests before ++ ys) (sym asked),
    )

-- before a command
pub reads-command : (count : ℕ) (fed : List ℕ) (place : RequestPlace) (more : List Request) → more ≡ requests fed
    → EndsAt 0 count fed place
    → ReadsTo (record { place = places.Command; fed = count }) fed (nexts.To place) more
reads-command count fed place more asked ends after is =
    subst (λ p. Reads (record { place = places.Command; fed = count }) fed
    (with_place (record { place = places.Command; fed = count }) fed p) more) (sym is)
    (reads-kept (record { place = places.Command; fed = count }) fed place more
    (λ before was. let empty : (tokens_of before).1 ≡ [] = was.0.1 in (
      no-end-command (tokens_of before).1 empty,
      asked ∙ ap (λ ys. requests (ys ++ fed)) (sym empty),
      subst (λ ys. EndsAt (length ys) count (ys ++ fed) place) (sym empty) ends,
    )))

-- in a reading
reads-reading : (wants : Wants) (text : List ℕ) (count : ℕ) (fed : List ℕ) (place : RequestPlace) (more : List Request)
    → ((byte : ℕ) → command_at byte ≡ commands.Reading wants → IsOpen text
    → (more ≡ requests (byte ∷ (text ++ fed)))
    × EndsAt (length (byte ∷ text)) count (byte ∷ (text ++ fed)) place)
    → Reads (record { place = places.Reading wants text; fed = count }) fed
    (with_place (record { place = places.Reading wants text; fed = count }) fed place) more
reads-reading wants text count fed place more how =
    reads-kept (record { place = places.Reading wants text; fed = count }) fed place more
    (λ before was.
    let (byte, command, is, goes) = was.0.1 in
    let (asked, ends) = how byte command goes in (
      ap end_in is ∙ no-end-reading byte wants text command,
      asked ∙ ap (λ ys. requests (ys ++ fed)) (sym is),
      subst (λ ys. EndsAt (length ys) count (ys ++ fed) place) (sym is) ends,
    ))

-- that ends
pub reads-ended : (wants : Wants) (text : List ℕ) (count : ℕ) (fed reading behind : List ℕ) (place : RequestPlace)
    (more : List Request) → cut ends_reading fed ≡ Some (reading, behind)
    → length text + length reading ≤ longest_reading
    → more ≡ asking wants (text ++ reading) ∷ requests behind
    → EndsAt 0 (min (count + (length reading + 1)) last_count) behind place
    → ReadsTo (record { place = places.Reading wants text; fed = count }) fed (nexts.To place) more
reads-ended wants text count fed reading behind place more cut_is fits asked ends after is =
    subst (λ p. Reads (record { place = places.Reading wants text; fed = count }) fed
    (with_place (record { place = places.Reading wants text; fed = count }) fed p) more) (sym is)
    (reads-reading wants text count fed place more
    (λ byte command goes.
    let whole = cut-behind ends_reading text fed reading behind goes.0 cut_is in
    let step = step-reading byte wants (text ++ fed) (text ++ reading) behind command whole
    (omega (arith, fits, length-append text reading)) in
    let tokens = taken-some token token-exact (byte ∷ (text ++ fed)) (asking wants (text ++ reading) ∷ [])
    behind step in (
      asked
          ∙ sym (ap (λ (parts : List (List Request) × List ℕ). all_asked parts.0 ++ end_in parts.1) tokens),
      ends-behind (byte ∷ (text ++ fed)) behind (length (byte ∷ text)) count (length reading + 1) place
          (ap (λ parts. parts.1) tokens) (long fed reading behind cut_is) ends,
    )))
  where
    long : (fed reading behind : List ℕ) → cut ends_reading fed ≡ Some (reading, behind)
        → length (0 ∷ (text ++ fed)) ≡ length (0 ∷ text) + (length reading + 1) + length behind
    long fed reading behind e =
        let (end, last, none, is) = cut-parts ends_reading fed reading behind e in
        omega (arith, length-append text fed, ap length is, length-append reading (end ∷ behind))

-- that goes on
pub reads-open : (wants : Wants) (text : List ℕ) (count : ℕ) (fed : List ℕ) (more : List Request)
    → cut ends_reading fed ≡ None → length text + length fed ≤ longest_reading → more ≡ []
    → ReadsTo (record { place = places.Reading wants text; fed = count }) fed nexts.GoesOn more
reads-open wants text count fed more cut_is fits none after is =
    subst (λ p. Reads (record { place = places.Reading wants text; fed = count }) fed
    (with_place (record { place = places.Reading wants text; fed = count }) fed p) more) (sym is)
    (reads-reading wants text count fed (places.Reading wants (text ++ fed)) more
    (λ byte command goes.
    let all = text ++ fed in
    let whole : GoesOn ends_reading all = goes-on-behind ends_reading text fed goes.0 cut_is in
    let uncut = cut-nowhere ends_reading all whole in
    let short : length all ≤ longest_reading = omega (arith, fits, length-append text fed) in
    let step = step-open byte wants all command uncut in
    let same : reading_in all ≡ all = goes-on-begun ends_reading all whole in (
      none ∙ sym (requests-here (byte ∷ all) step ∙ no-end-reading byte wants all command),
      (
        bad-here (byte ∷ all) step ∙ bad-open byte wants all command (omega (arith, short, ap length same)),
        subst (IsKept (places.Reading wants all)) (sym (ap (λ parts. parts.1) (no-tokens (byte ∷ all) step)))
            (byte, command, refl, (whole, short)),
      ),
    )))

-- that becomes too long
pub reads-long : (wants : Wants) (text : List ℕ) (count at : ℕ) (fed : List ℕ) (more : List Request)
    → longest_reading < length text + length (reading_in fed) → more ≡ []
    → at ≡ min (count + (longest_reading - length text)) last_count
    → ReadsTo (record { place = places.Reading wants text; fed = count }) fed (nexts.To (places.Bad at)) more
reads-long wants text count at fed more long none at_is after is =
    subst (λ p. Reads (record { place = places.Reading wants text; fed = count }) fed
    (with_place (record { place = places.Reading wants text; fed = count }) fed p) more) (sym is)
    (reads-reading wants text count fed (places.Bad at) more
    (λ byte command goes.
    let all = text ++ fed in
    let longer = long-behind ends_reading longest_reading text fed goes.0 long in
    let step = step-long byte wants all command longer in (
      none ∙ sym (requests-here (byte ∷ all) step ∙ no-end-reading byte wants all command),
      (
        longest_reading - length text,
        bad-here (byte ∷ all) step ∙ bad-long byte wants all command longer ∙ ap Some (omega (arith, goes.1)),
        at_is,
      ),
    )))

-- where nothing is read any more
pub reads-stays : (place : RequestPlace) (count : ℕ) (fed : List ℕ) (more : List Request) → more ≡ []
    → (place ≡ places.Ended) ⊎ ((at : ℕ) × (place ≡ places.Bad at))
    → ReadsTo (record { place = place; fed = count }) fed nexts.Stays more
reads-stays place count fed more none (inl ended) after is before was =
    let here : Fed before (record { place = places.Ended; fed = count }) =
    subst (λ p. Fed before (record { place = p; fed = count })) ended was in
    let (byte, behind, command, rest_is) = here.0.1 in
    let stays = end-stays before fed byte behind command rest_is in
    let bad : first_bad (before ++ fed) ≡ None =
    bad-on before fed
    ∙ ap (option_map (λ at. length before - length (tokens_of before).1 + at))
    (ap (λ ys. first_bad (ys ++ fed)) rest_is
    ∙ bad-here (byte ∷ (behind ++ fed)) (step-end byte (behind ++ fed) command)
    ∙ bad-end byte (behind ++ fed) command) in
    subst (λ p. Fed (before ++ fed) (record { place = p; fed = min (count + length fed) last_count })
    × (requests (before ++ fed) ≡ requests before ++ more)) (sym (is ∙ ended)) (
      ((bad, (byte, behind ++ fed, command, stays.1)), counted before fed count here.1),
      stays.0 ∙ sym (append-nil (requests before)) ∙ ap (λ ys. requests before ++ ys) (sym none),
    )
reads-stays place count fed more none (inr (at, bad_place)) after is before was =
    let here : Fed before (record { place = places.Bad at; fed = count }) =
    subst (λ p. Fed before (record { place = p; fed = count })) bad_place was in
    let (place_of, found, at_is) = here.0 in
    let stays = bad-stays before fed (0 + place_of) found in
    subst (λ p. Fed (before ++ fed) (record { place = p; fed = min (count + length fed) last_count })
    × (requests (before ++ fed) ≡ requests before ++ more)) (sym (is ∙ bad_place)) (
      ((place_of, stays.1, at_is), counted before fed count here.1),
      stays.0 ∙ sym (append-nil (requests before)) ∙ ap (λ ys. requests before ++ ys) (sym none),
    )

-- Reading from a command on

-- tokens were read in front of what is left, and what they ask was added
pub record HasRead (bytes left : List ℕ) (before now : List Request) : Type 0 where
  pub values : List (List Request)
  pub pieces : List ℕ
  pub spelled : SpellsMany token.Spells values pieces
  pub bytes_are : bytes ≡ pieces ++ left
  pub added : now ≡ before ++ all_asked values

-- at the start there are none
pub read-none : (bytes : List ℕ) (before : List Request) → HasRead bytes bytes before before
read-none bytes before =
    record { values = []; pieces = []; spelled = refl; bytes_are = refl; added = sym (append-nil before) }

-- and one more is read
pub read-one : (bytes left behind : List ℕ) (before now after asked : List Request) → HasRead bytes left before now
    → token.step left ≡ Some (asked, behind) → after ≡ now ++ asked → HasRead bytes behind before after
read-one bytes left behind before now after asked read step added =
    let is = token-exact.sound left asked behind step in record {
      values = read.values ++ asked ∷ [];
      pieces = read.pieces ++ is.piece;
      spelled = many-append token.Spells read.values (asked ∷ []) read.pieces is.piece read.spelled
          (many-one token.Spells asked is.piece is.spelled);
      bytes_are = read.bytes_are ∙ ap (λ ys. read.pieces ++ ys) is.tokens_are
          ∙ sym (append_assoc read.pieces is.piece behind);
      added = added ∙ ap (λ ys. ys ++ asked) read.added ∙ append_assoc before (all_asked read.values) asked
          ∙ ap (λ ys. before ++ ys)
          (ap (λ ys. all_asked read.values ++ ys) (sym (append-nil asked))
          ∙ sym (flat_map-append (λ a. a) read.values (asked ∷ [])));
    }

-- a rest begins with no token, and asks what is told
rest-step : (left : List ℕ) (rest : Rest) → IsRest left rest
    → (token.step left ≡ None) × (end_in left ≡ asked_last rest)
rest-step left rests.Empty e = subst (λ ys. (token.step ys ≡ None) × (end_in ys ≡ [])) (sym e) (refl, refl)
rest-step left (rests.Open wants text) (byte, command, is, goes) =
    subst (λ ys. (token.step ys ≡ None) × (end_in ys ≡ [])) (sym is) (
      step-open byte wants text.now command (cut-nowhere ends_reading text.now goes.0),
      no-end-reading byte wants text.now command,
    )
rest-step left rests.Ended (byte, behind, command, is) =
    subst (λ ys. (token.step ys ≡ None) × (end_in ys ≡ End ∷ [])) (sym is)
    (step-end byte behind command, rw command refl)
rest-step left (rests.Bad count) (at, bad, sum) =
    let facts = is-bad left at bad in (facts.no_token, facts.no_end)

-- all that was read, where no token is left
module _ (bytes left : List ℕ) (before now : List Request) (read : HasRead bytes left before now) (rest : Rest)
    (is : IsRest left rest) where
  tokens : tokens_of bytes ≡ (read.values, left)
  tokens =
      ap tokens_of read.bytes_are
      ∙ taken-complete token token-exact read.values read.pieces left read.spelled (rest-step left rest is).0

  pub asked-all : (after : List Request) → after ≡ now ++ asked_last rest → after ≡ before ++ requests bytes
  asked-all after added =
      added ∙ ap (λ ys. ys ++ asked_last rest) read.added
      ∙ append_assoc before (all_asked read.values) (asked_last rest)
      ∙ ap (λ ys. before ++ (all_asked read.values ++ ys)) (sym (rest-step left rest is).1)
      ∙ ap (λ ys. before ++ ys)
      (sym (ap (λ (parts : List (List Request) × List ℕ). all_asked parts.0 ++ end_in parts.1) tokens))

  bad-left : first_bad bytes ≡ option_map (λ at. length bytes - length left + at) (bad_in left)
  bad-left = ap (λ (parts : List (List Request) × List ℕ).
      option_map (λ at. length bytes - length parts.1 + at) (bad_in parts.1)) tokens

  within : length left ≤ length bytes
  within = omega (arith, ap length read.bytes_are, length-append read.pieces left)

-- and where all bytes end
pub ends-all : (bytes left : List ℕ) (before now : List Request) → HasRead bytes left before now → (rest : Rest)
    → IsRest left rest → (count : ℕ) (place : RequestPlace) → IsPlaceOf rest count (length bytes) place
    → EndsAt 0 count bytes place
ends-all bytes left before now read rests.Empty is count place e =
    subst (EndsAt 0 count bytes) (sym e) (
      bad-left bytes left before now read rests.Empty is
          ∙ ap (option_map (λ at. length bytes - length left + at)) (ap bad_in is),
      ap (λ parts. parts.1) (tokens bytes left before now read rests.Empty is) ∙ is,
    )
ends-all bytes left before now read (rests.Open wants text) is count place e =
    let (byte, command, left_is, goes) = is in
    let same : reading_in text.now ≡ text.now = goes-on-begun ends_reading text.now goes.0 in
    subst (EndsAt 0 count bytes) (sym e) (
      bad-left bytes left before now read (rests.Open wants text) is
          ∙ ap (option_map (λ at. length bytes - length left + at))
          (ap bad_in left_is ∙ bad-open byte wants text.now command (omega (arith, goes.1, ap length same))),
      (
        byte,
        command,
        ap (λ parts. parts.1) (tokens bytes left before now read (rests.Open wants text) is) ∙ left_is,
        goes,
      ),
    )
ends-all bytes left before now read rests.Ended is count place e =
    let (byte, behind, command, left_is) = is in
    subst (EndsAt 0 count bytes) (sym e) (
      bad-left bytes left before now read rests.Ended is
          ∙ ap (option_map (λ at. length bytes - length left + at)) (ap bad_in left_is ∙ bad-end byte behind command),
      (
        byte,
        behind,
        command,
        ap (λ parts. parts.1) (tokens bytes left before now read rests.Ended is) ∙ left_is,
      ),
    )
ends-all bytes left before now read (rests.Bad few) is count place e =
    let (at, bad, sum) = is in
    subst (EndsAt 0 count bytes) (sym e) (
      length bytes - few,
      bad-left bytes left before now read (rests.Bad few) is
          ∙ ap (option_map (λ n. length bytes - length left + n)) bad
          ∙ ap Some (omega (arith, sum, within bytes left before now read (rests.Bad few) is)),
      refl,
    )

-- Faults

-- the place of a bad byte is the first one's
pub bad-place : (bytes : List ℕ) (feeder : Feeding) (at : ℕ) → feeder.place ≡ places.Bad at → Fed bytes feeder
    → bad_at bytes ≡ Some at
bad-place bytes feeder at e fed =
    let (more, found, at_is) = subst (EndsAt 0 0 bytes) e fed.0 in
    ap (option_map (λ n. min n last_count)) found ∙ ap Some (omega (arith, at_is))

-- and else there is none
pub no-bad-place : (bytes : List ℕ) (feeder : Feeding) → ((at : ℕ) → feeder.place ≡ places.Bad at → ⊥)
    → Fed bytes feeder → bad_at bytes ≡ None
no-bad-place bytes feeder other fed = by feeder.place refl fed.0
  where
    by : (place : RequestPlace) → feeder.place ≡ place → EndsAt 0 0 bytes place → bad_at bytes ≡ None
    by places.Command e is = ap (option_map (λ n. min n last_count)) is.0
    by (places.Reading wants text) e is = ap (option_map (λ n. min n last_count)) is.0
    by places.Ended e is = ap (option_map (λ n. min n last_count)) is.0
    by (places.Bad at) e is = absurd (other at e)

-- a feeder that was fed nothing
pub fed-nothing : Fed [] (record { place = places.Command; fed = 0 })
fed-nothing = ((bad-here [] refl, ap (λ parts. parts.1) (no-tokens [] refl)), refl)
