-- Laws of what was printed, as lines are typed and pages are written.
use Rattle.std.proofs.Common.{◌≡◌, ◌≤◌, ◌∙◌, sym, ap, subst, rules, ℕ, Option, Some, None, List, [], ◌++◌, append_assoc}
use Rattle.std.proofs.Common.{Result, Ok, Err, OnOk, OnErr, IsErrAnd, encode_utf8_all, arith}
use Rattle.std.proofs.KnownBytes.{Appends-trans}
use Rattle.std.proofs.lemmas.List.{append-nil}
use Rattle.std.proofs.lemmas.Str.{encodes-append}
use Rattle.std.specs.Io.KnownBytes.{Appends, Keeps}
use Rattle.skk_outside.specs.Faults.{Rose}
use Rattle.skk_outside.specs.Written.{AppendsPrefix}
use Rattle.run_endings.specs.Page.{Printed}
use Rattle.skk_outside.specs.Moved.{MovedSink}
use Rattle.skk_outside.specs.declared.outside.Failed.{Failed}
use Rattle.run_endings.specs.Page.{LeavesPrinted, StopsPrinting, Writes}
use Rattle.run_endings.specs.Status.{Ended}
use Rattle.run_endings.specs.declared.fault.RunFault.{RunFault}

-- what holds anyway holds at an error
pub on_err : {T E P : Type 0} (r : Result T E) → P → OnErr r P
on_err (Ok x) p = search rules
on_err (Err e) p = p

-- what follows of what holds at an error
pub each_err : {T E : Type 0} {P Q : Type 0} (r : Result T E) → OnErr r P → (P → Q) → OnErr r Q
each_err (Ok x) p q = search rules
each_err (Err e) p q = q p

-- what follows of what holds where all went well
pub each_ok : {T E : Type 0} {P Q : Type 0} (r : Result T E) → OnOk r P → (P → Q) → OnOk r Q
each_ok (Ok x) p q = q p
each_ok (Err e) p q = search rules

-- nothing was written
pub Appends-none : (known : Option (List ℕ)) → Appends known known []
Appends-none None = search rules
Appends-none (Some bytes) = sym (append-nil bytes)

-- the rest may be said otherwise
pub Printed-rest : (old new : Option (List ℕ)) (page rest other whole : List ℕ) → rest ≡ other
    → Printed old new page rest whole → Printed old new page other whole
Printed-rest old new page rest other whole same printed =
    (printed.0, printed.1, ap (λ r. printed.0 ++ (page ++ r)) (sym same) ∙ printed.2)

-- the head of the rest goes to the page
pub Printed-more : (old new : Option (List ℕ)) (page more rest whole longer : List ℕ) → longer ≡ page ++ more
    → Printed old new page (more ++ rest) whole → Printed old new longer rest whole
Printed-more old new page more rest whole longer pushed printed = (
  printed.0,
  printed.1,
  ap (λ p. printed.0 ++ (p ++ rest)) pushed ∙ ap (λ p. printed.0 ++ p) (append_assoc page more rest) ∙ printed.2,
)

-- some of the page is written
pub Printed-written : (old mid new : Option (List ℕ)) (page left rest whole : List ℕ) → Printed old mid page rest whole
    → Printed mid new left [] page → Printed old new left rest whole
Printed-written old mid new page left rest whole printed written = (
  printed.0 ++ written.0,
  subst (Appends old new) (sym (encodes-append printed.0 written.0))
      (Appends-trans old mid new (encode_utf8_all printed.0) (encode_utf8_all written.0) printed.1 written.1),
  regroup printed.0 written.0 left rest page written.2 ∙ printed.2,
)
  where
    regroup : (done more left rest page : List ℕ) → more ++ (left ++ []) ≡ page
        → (done ++ more) ++ (left ++ rest) ≡ done ++ (page ++ rest)
    regroup done more left rest page e =
        append_assoc done more (left ++ rest)
        ∙ ap (λ p. done ++ p)
        (sym (append_assoc more left rest) ∙ ap (λ p. p ++ rest) (ap (λ l. more ++ l) (sym (append-nil left)) ∙ e))

-- what was written is a prefix of the whole
pub Printed-prefix : (old new : Option (List ℕ)) (page rest whole : List ℕ) → Printed old new page rest whole
    → AppendsPrefix old new (encode_utf8_all whole)
Printed-prefix old new page rest whole printed = (
  encode_utf8_all printed.0,
  (encode_utf8_all (page ++ rest), ap encode_utf8_all (sym printed.2) ∙ encodes-append printed.0 (page ++ rest)),
  printed.1,
)

-- so it is where a prefix of the page was written as well
pub Printed-prefix_of_page : (old mid new : Option (List ℕ)) (page rest whole : List ℕ)
    → Printed old mid page rest whole → AppendsPrefix mid new (encode_utf8_all page)
    → AppendsPrefix old new (encode_utf8_all whole)
Printed-prefix_of_page old mid new page rest whole printed written =
    let done = encode_utf8_all printed.0 in
    let more = written.1.0 ++ encode_utf8_all rest in (
      done ++ written.0,
      (
        more,
        ap encode_utf8_all (sym printed.2) ∙ encodes-append printed.0 (page ++ rest)
            ∙ ap (λ bytes. done ++ bytes)
            (encodes-append page rest ∙ ap (λ bytes. bytes ++ encode_utf8_all rest) written.1.1
            ∙ append_assoc written.0 written.1.0 (encode_utf8_all rest))
            ∙ sym (append_assoc done written.0 more),
      ),
      Appends-trans old mid new done written.0 printed.1 written.2,
    )

-- where the page is the rest, and is written, all is
pub Printed-whole : (old mid new : Option (List ℕ)) (page whole : List ℕ) → Printed old mid page [] whole
    → Appends mid new (encode_utf8_all page) → Appends old new (encode_utf8_all whole)
Printed-whole old mid new page whole printed written =
    subst (Appends old new) (sym (encodes-append printed.0 page)
    ∙ ap encode_utf8_all (ap (λ p. printed.0 ++ p) (sym (append-nil page)) ∙ printed.2))
    (Appends-trans old mid new (encode_utf8_all printed.0) (encode_utf8_all page) printed.1 written)

-- a prefix of what comes first is a prefix of all
pub AppendsPrefix-more : (old new : Option (List ℕ)) (first more : List ℕ) → AppendsPrefix old new first
    → AppendsPrefix old new (first ++ more)
AppendsPrefix-more old new first more front =
    (front.0, (front.1.0 ++ more, ap (λ bytes. bytes ++ more) front.1.1 ∙ append_assoc front.0 front.1.0 more), front.2)

-- so is a prefix of what comes behind what was written
pub AppendsPrefix-behind : (old mid new : Option (List ℕ)) (first more : List ℕ) → Appends old mid first
    → AppendsPrefix mid new more → AppendsPrefix old new (first ++ more)
AppendsPrefix-behind old mid new first more written front = (
  first ++ front.0,
  (front.1.0, ap (λ bytes. first ++ bytes) front.1.1 ∙ sym (append_assoc first front.0 front.1.0)),
  Appends-trans old mid new first front.0 written front.2,
)

-- all that is typed is a prefix of it
pub AppendsPrefix-whole : (old new : Option (List ℕ)) (whole : List ℕ) → Appends old new whole
    → AppendsPrefix old new whole
AppendsPrefix-whole old new whole appends = (whole, ([], sym (append-nil whole)), appends)

-- Bytes written in two steps

-- where the first one failed
pub writes-stopped : (first rest : List ℕ) (result : Result (Unit {0}) Failed) (fault : Failed) (sink : MovedSink)
    → IsErrAnd result (λ handed. handed ≡ fault) → Writes first (Err fault) sink → Writes (first ++ rest) result sink
writes-stopped first rest (Ok done) fault sink is writes = absurd (search (rules, is))
writes-stopped first rest (Err handed) fault sink is writes = record {
  whole = tt;
  prefix = AppendsPrefix-more sink.written sink.written' first rest writes.prefix;
  failed = writes.failed;
  counted = writes.counted;
}

-- where it went well
pub writes-then : (first rest : List ℕ) (result : Result (Unit {0}) Failed) {old mid new : Option (List ℕ)}
    {faults middle faults' : ℕ}
    → Writes first (Ok tt) (record { written = old; written' = mid; faults = faults; faults' = middle })
    → Writes rest result (record { written = mid; written' = new; faults = middle; faults' = faults' })
    → Writes (first ++ rest) result (record { written = old; written' = new; faults = faults; faults' = faults' })
writes-then first rest (Ok done) {old = old} {mid = mid} {new = new} one two = record {
  whole = Appends-trans old mid new first rest one.whole two.whole;
  prefix = tt;
  failed = tt;
  counted = omega (arith, one.counted, two.counted);
}
writes-then first rest (Err fault) {old = old} {mid = mid} {new = new} one two = record {
  whole = tt;
  prefix = AppendsPrefix-behind old mid new first rest one.whole two.prefix;
  failed = omega (arith, one.counted, two.failed);
  counted = omega (arith, one.counted, two.counted);
}

-- Printing

-- a sink that keeps what it was written has it
pub Appends-kept : (old mid new : Option (List ℕ)) (bytes : List ℕ) → Appends old mid bytes → Keeps mid new
    → Appends old new bytes
Appends-kept None mid new bytes appends keeps = search rules
Appends-kept (Some xs) None new bytes appends keeps = absurd appends
Appends-kept (Some xs) (Some ys) None bytes appends keeps = absurd keeps
Appends-kept (Some xs) (Some ys) (Some zs) bytes appends keeps = keeps ∙ appends

-- what printing leaves that ends with a fault
pub printed-fault : (bytes : List ℕ) (ended : Ended) (fault : RunFault) (sink : MovedSink)
    → IsErrAnd ended (λ handed. handed ≡ fault)
    → AppendsPrefix sink.written sink.written' bytes → StopsPrinting sink fault → sink.faults ≤ sink.faults'
    → LeavesPrinted bytes ended sink
printed-fault bytes (Ok done) fault sink is prefix stops counted = absurd (search (rules, is))
printed-fault bytes (Err handed) fault sink is prefix stops counted = record {
  whole = tt;
  prefix = prefix;
  stopped = subst (StopsPrinting sink) (sym is) stops;
  counted = counted;
}

-- bytes that were written stay so where all that waits is written too
pub writes-through : (bytes : List ℕ) (result : Result (Unit {0}) Failed) {old mid new : Option (List ℕ)}
    {faults middle faults' : ℕ}
    → Writes bytes (Ok tt) (record { written = old; written' = mid; faults = faults; faults' = middle })
    → Keeps mid new → OnErr result (Rose middle faults') → middle ≤ faults'
    → Writes bytes result (record { written = old; written' = new; faults = faults; faults' = faults' })
writes-through bytes (Ok done) {old = old} {mid = mid} {new = new} written keeps failed counted = record {
  whole = Appends-kept old mid new bytes written.whole keeps;
  prefix = tt;
  failed = tt;
  counted = omega (arith, written.counted, counted);
}
writes-through bytes (Err fault) {old = old} {mid = mid} {new = new} written keeps failed counted = record {
  whole = tt;
  prefix = AppendsPrefix-whole old new bytes (Appends-kept old mid new bytes written.whole keeps);
  failed = omega (arith, written.counted, failed);
  counted = omega (arith, written.counted, counted);
}
