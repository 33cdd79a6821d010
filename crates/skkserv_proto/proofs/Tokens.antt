-- What bytes spell as tokens, and how it goes on with more bytes.
use Rattle.std.proofs.Common.{◌≡◌, ◌<◌, ◌≤◌, ℕ, ◌+◌, ◌-◌, Bool, true, false, nat_lt, Option, None, Some, List, [], ◌∷◌}
use Rattle.std.proofs.Common.{◌++◌, length, refl, sym, ap, ◌∙◌, arith, length-append, append_assoc, append-nil}
use Rattle.std.specs.Option.{option_map}
use Rattle.std.proofs.lemmas.Bool.{lt-ltb, le-ltb, ltb-true}
use Rattle.std.proofs.lemmas.Grind.{flat_map-append}
use Rattle.exact_readers.specs.Cuts.{cut}
use Rattle.exact_readers.specs.Exact.{IsExact}
use Rattle.exact_readers.specs.ExactLaws.{one_as-exact, both-exact, either-exact, mapped-exact, option_map-some}
use Rattle.exact_readers.specs.Formats.{one_as, both}
use Rattle.exact_readers.specs.ManyLaws.{taken-none}
use Rattle.cut_input.specs.PieceLaws.{piece-exact, piece-here, piece-open, piece-long, long-more}
use Rattle.cut_input.specs.RestLaws.{taken-on, rest-within}
use Rattle.skkserv_proto.specs.declared.command.CommandByte.{CommandByte}
use Rattle.skkserv_proto.specs.declared.command.CommandByte.TheVariants as commands
use Rattle.skkserv_proto.specs.declared.command.Wants.{Wants}
use Rattle.skkserv_proto.specs.declared.request.Request.{Request}
use Rattle.skkserv_proto.specs.Requests.{command_at, ends_reading, longest_reading, ended_reading, wanted_by}
use Rattle.skkserv_proto.specs.Requests.{wanted_at, asking, asked_by, asked_alone, with_reading, token, tokens_of}
use Rattle.skkserv_proto.specs.Requests.{end_by, end_in, all_asked, requests, reading_in, bad_by, bad_in, first_bad}

-- Tokens are exact

-- a byte with a reading behind it is no token by itself
not_alone : (command : CommandByte) (wants : Wants) → wanted_by command ≡ Some wants → asked_by command ≡ None
not_alone command wants e = grind arith

pub token-exact : IsExact token
token-exact =
    either-exact (one_as asked_alone) with_reading (one_as-exact asked_alone)
    (mapped-exact (both (one_as wanted_at) ended_reading)
    (both-exact (one_as wanted_at) ended_reading (one_as-exact wanted_at)
    (piece-exact ends_reading longest_reading))
    (λ pair. asking pair.0 pair.1 ∷ []))
    (λ piece asked rest (pair, (front, back, (byte, wanted, one), spelled, is), request).
    ap (λ ys. (one_as asked_alone).step (ys ++ rest)) (is ∙ ap (λ ys. ys ++ back) one)
    ∙ ap (option_map (λ a. (a, back ++ rest))) (not_alone (command_at byte) pair.0 wanted))

-- Steps

-- a command that is whole by itself
pub step-alone : (byte : ℕ) (rest : List ℕ) (asked : List Request) → asked_by (command_at byte) ≡ Some asked
    → token.step (byte ∷ rest) ≡ Some (asked, rest)
step-alone byte rest asked e = rw e refl

-- a reading that ends, and is not too long
pub step-reading : (byte : ℕ) (wants : Wants) (text reading behind : List ℕ) → command_at byte ≡ commands.Reading wants
    → cut ends_reading text ≡ Some (reading, behind) → length reading ≤ longest_reading
    → token.step (byte ∷ text) ≡ Some (asking wants reading ∷ [], behind)
step-reading byte wants text reading behind e f fits =
    let step = piece-here ends_reading longest_reading text reading behind f fits in rw (e, step) refl

-- a reading that is not read
step-unread : (byte : ℕ) (wants : Wants) (text : List ℕ) → command_at byte ≡ commands.Reading wants
    → ended_reading.step text ≡ None → token.step (byte ∷ text) ≡ None
step-unread byte wants text e f = rw (e, f) refl

-- since it does not end
pub step-open : (byte : ℕ) (wants : Wants) (text : List ℕ) → command_at byte ≡ commands.Reading wants
    → cut ends_reading text ≡ None → token.step (byte ∷ text) ≡ None
step-open byte wants text e f = step-unread byte wants text e (piece-open ends_reading longest_reading text f)

-- or is too long
pub step-long : (byte : ℕ) (wants : Wants) (text : List ℕ) → command_at byte ≡ commands.Reading wants
    → longest_reading < length (reading_in text) → token.step (byte ∷ text) ≡ None
step-long byte wants text e long = step-unread byte wants text e (piece-long ends_reading longest_reading text long)

-- a command that takes nothing
pub step-end : (byte : ℕ) (rest : List ℕ) → command_at byte ≡ commands.End → token.step (byte ∷ rest) ≡ None
step-end byte rest e = rw e refl

step-other : (byte : ℕ) (rest : List ℕ) → command_at byte ≡ commands.Other → token.step (byte ∷ rest) ≡ None
step-other byte rest e = rw e refl

-- Bad bytes

-- a reading that is too long has a bad byte
pub bad-long : (byte : ℕ) (wants : Wants) (text : List ℕ) → command_at byte ≡ commands.Reading wants
    → longest_reading < length (reading_in text) → bad_in (byte ∷ text) ≡ Some (longest_reading + 1)
bad-long byte wants text e long =
    grind (arith, lt-ltb longest_reading (length (reading_in text)))

-- one that is not has none
pub bad-open : (byte : ℕ) (wants : Wants) (text : List ℕ) → command_at byte ≡ commands.Reading wants
    → length (reading_in text) ≤ longest_reading → bad_in (byte ∷ text) ≡ None
bad-open byte wants text e short =
    grind (arith, le-ltb longest_reading (length (reading_in text)))

-- nor has the end
pub bad-end : (byte : ℕ) (text : List ℕ) → command_at byte ≡ commands.End → bad_in (byte ∷ text) ≡ None
bad-end byte text e = rw e refl

-- what is known where a byte is bad: no token begins there, nothing is asked, and it stays bad with more behind it
pub record IsBad (rest : List ℕ) (at : ℕ) : Type 0 where
  pub no_token : token.step rest ≡ None
  pub no_end : end_in rest ≡ []
  pub stays : (more : List ℕ) → bad_in (rest ++ more) ≡ Some at

pub is-bad : (rest : List ℕ) (at : ℕ) → bad_in rest ≡ Some at → IsBad rest at
is-bad [] at bad = cc
is-bad (byte ∷ text) at bad = by (command_at byte) refl
  where
    none : (command : CommandByte) → command_at byte ≡ command → bad_by command text ≡ None → IsBad (byte ∷ text) at
    none command e f =
        let no : ◌≡◌ {A = Option ℕ} None (Some at) =
        sym f ∙ ap (λ c. bad_by c text) (sym e) ∙ bad in cc

    reading : (wants : Wants) → command_at byte ≡ commands.Reading wants
        → (b : Bool) → nat_lt longest_reading (length (reading_in text)) ≡ b → IsBad (byte ∷ text) at
    reading wants e true more =
        let long = ltb-true longest_reading (length (reading_in text)) more in record {
          no_token = step-long byte wants text e long;
          no_end = rw e refl;
          stays = λ ys. bad-long byte wants (text ++ ys) e (long-more ends_reading longest_reading text ys long)
              ∙ sym (bad-long byte wants text e long) ∙ bad;
        }
    reading wants e false more = none (commands.Reading wants) e (rw more refl)

    by : (command : CommandByte) → command_at byte ≡ command → IsBad (byte ∷ text) at
    by commands.LineEnd e = none commands.LineEnd e refl
    by commands.End e = none commands.End e refl
    by commands.Version e = none commands.Version e refl
    by commands.Host e = none commands.Host e refl
    by (commands.Reading wants) e = reading wants e (nat_lt longest_reading (length (reading_in text))) refl
    by commands.Other e = record {
      no_token = step-other byte text e;
      no_end = rw e refl;
      stays = λ ys. let here : bad_in (byte ∷ text) ≡ Some 0 = rw e refl in
          let there : bad_in (byte ∷ (text ++ ys)) ≡ Some 0 = rw e refl in there ∙ sym here ∙ bad;
    }

-- More bytes

-- what stands behind the last token decides how it goes on
pub goes-on : (bytes fed : List ℕ)
    → tokens_of (bytes ++ fed)
    ≡ ((tokens_of bytes).0 ++ (tokens_of ((tokens_of bytes).1 ++ fed)).0, (tokens_of ((tokens_of bytes).1 ++ fed)).1)
goes-on bytes fed = taken-on token token-exact bytes fed

-- it is no longer than all
pub within : (bytes : List ℕ) → length (tokens_of bytes).1 ≤ length bytes
within bytes = rest-within token token-exact bytes

-- the requests of more bytes
pub requests-on : (bytes fed : List ℕ) → end_in (tokens_of bytes).1 ≡ []
    → requests (bytes ++ fed) ≡ requests bytes ++ requests ((tokens_of bytes).1 ++ fed)
requests-on bytes fed none =
    let values = (tokens_of bytes).0 in
    let more = tokens_of ((tokens_of bytes).1 ++ fed) in
    ap (λ (parts : List (List Request) × List ℕ). all_asked parts.0 ++ end_in parts.1) (goes-on bytes fed)
    ∙ ap (λ ys. ys ++ end_in more.1) (flat_map-append (λ asked. asked) values more.0)
    ∙ append_assoc (all_asked values) (all_asked more.0) (end_in more.1)
    ∙ ap (λ ys. ys ++ requests ((tokens_of bytes).1 ++ fed))
    (sym (ap (λ ys. all_asked values ++ ys) none ∙ append-nil (all_asked values)))

-- the place of a bad byte, where these tokens stand in front of it
pub bad-on : (bytes fed : List ℕ)
    → first_bad (bytes ++ fed)
    ≡ option_map (λ at. length bytes - length (tokens_of bytes).1 + at) (first_bad ((tokens_of bytes).1 ++ fed))
bad-on bytes fed =
    let rest = (tokens_of bytes).1 in
    let last = (tokens_of (rest ++ fed)).1 in
    ap (λ (parts : List (List Request) × List ℕ).
    option_map (λ at. length (bytes ++ fed) - length parts.1 + at) (bad_in parts.1)) (goes-on bytes fed)
    ∙ grind (
      arith,
      length-append bytes fed,
      length-append (tokens_of bytes).1 fed,
      within bytes,
      within ((tokens_of bytes).1 ++ fed),
    )

-- bytes that begin with no token have none
pub no-tokens : (bytes : List ℕ) → token.step bytes ≡ None → tokens_of bytes ≡ ([], bytes)
no-tokens bytes none = taken-none token token-exact bytes none

-- and their place of a bad byte is that of what they are
pub bad-here : (bytes : List ℕ) → token.step bytes ≡ None → first_bad bytes ≡ bad_in bytes
bad-here bytes none =
    ap (λ (parts : List (List Request) × List ℕ).
    option_map (λ at. length bytes - length parts.1 + at) (bad_in parts.1)) (no-tokens bytes none)
    ∙ grind arith

-- and they ask what stands there
pub requests-here : (bytes : List ℕ) → token.step bytes ≡ None → requests bytes ≡ end_in bytes
requests-here bytes none =
    ap (λ (parts : List (List Request) × List ℕ). all_asked parts.0 ++ end_in parts.1) (no-tokens bytes none)

-- behind the end it stays, and nothing more is asked
pub end-stays : (bytes fed : List ℕ) (byte : ℕ) (behind : List ℕ) → command_at byte ≡ commands.End
    → (tokens_of bytes).1 ≡ byte ∷ behind
    → (requests (bytes ++ fed) ≡ requests bytes) × ((tokens_of (bytes ++ fed)).1 ≡ byte ∷ (behind ++ fed))
end-stays bytes fed byte behind command rest_is =
    let tokens = no-tokens (byte ∷ (behind ++ fed)) (step-end byte (behind ++ fed) command) in
    let all : tokens_of (bytes ++ fed) ≡ ((tokens_of bytes).0 ++ [], byte ∷ (behind ++ fed)) =
    goes-on bytes fed
    ∙ ap (λ ys. ((tokens_of bytes).0 ++ (tokens_of (ys ++ fed)).0, (tokens_of (ys ++ fed)).1)) rest_is
    ∙ ap (λ (parts : List (List Request) × List ℕ). ((tokens_of bytes).0 ++ parts.0, parts.1)) tokens in (
      ap (λ (parts : List (List Request) × List ℕ). all_asked parts.0 ++ end_in parts.1) all
          ∙ ap (λ values. all_asked values ++ end_by (command_at byte)) (append-nil (tokens_of bytes).0)
          ∙ ap (λ ys. all_asked (tokens_of bytes).0 ++ ys) (sym (ap end_in rest_is)),
      ap (λ (parts : List (List Request) × List ℕ). parts.1) all,
    )

-- behind a bad byte this stays the first, and nothing more is asked
pub bad-stays : (bytes fed : List ℕ) (at : ℕ) → first_bad bytes ≡ Some at
    → (requests (bytes ++ fed) ≡ requests bytes) × (first_bad (bytes ++ fed) ≡ Some at)
bad-stays bytes fed at found =
    let rest = (tokens_of bytes).1 in
    let (inner, bad, sum) = option_map-some (bad_in rest) (λ n. length bytes - length rest + n) at found in
    let facts = is-bad rest inner bad in
    let later = is-bad (rest ++ fed) inner (facts.stays fed) in (
      requests-on bytes fed facts.no_end
          ∙ ap (λ ys. requests bytes ++ ys) (requests-here (rest ++ fed) later.no_token ∙ later.no_end)
          ∙ append-nil (requests bytes),
      bad-on bytes fed
          ∙ ap (option_map (λ n. length bytes - length rest + n))
          (bad-here (rest ++ fed) later.no_token ∙ facts.stays fed)
          ∙ ap Some sum,
    )

-- what bytes ask is the first of what is asked with more behind them
pub requests-more : (bytes fed : List ℕ) → (more : List Request) × (requests (bytes ++ fed) ≡ requests bytes ++ more)
requests-more bytes fed = by (tokens_of bytes).1 refl
  where
    on : end_in (tokens_of bytes).1 ≡ [] → (more : List Request) × (requests (bytes ++ fed) ≡ requests bytes ++ more)
    on none = (requests ((tokens_of bytes).1 ++ fed), requests-on bytes fed none)

    at : (byte : ℕ) (behind : List ℕ) → (tokens_of bytes).1 ≡ byte ∷ behind → (command : CommandByte)
        → command_at byte ≡ command → (more : List Request) × (requests (bytes ++ fed) ≡ requests bytes ++ more)
    at byte behind e commands.End f = ([], (end-stays bytes fed byte behind f e).0 ∙ sym (append-nil (requests bytes)))
    at byte behind e commands.LineEnd f = on (ap end_in e ∙ ap end_by f)
    at byte behind e commands.Version f = on (ap end_in e ∙ ap end_by f)
    at byte behind e commands.Host f = on (ap end_in e ∙ ap end_by f)
    at byte behind e (commands.Reading wants) f = on (ap end_in e ∙ ap end_by f)
    at byte behind e commands.Other f = on (ap end_in e ∙ ap end_by f)

    by : (rest : List ℕ) → (tokens_of bytes).1 ≡ rest
        → (more : List Request) × (requests (bytes ++ fed) ≡ requests bytes ++ more)
    by [] e = on (ap end_in e)
    by (byte ∷ behind) e = at byte behind e (command_at byte) refl
