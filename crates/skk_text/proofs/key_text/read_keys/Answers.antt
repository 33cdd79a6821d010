use Rattle.std.proofs.Common.{◌≡◌, ◌+◌, ℕ, Err, ap, sym, subst}
use Rattle.skk_text.specs.KeyText.{BeginsBadName, BeginsNotAscii}
use Rattle.skk_text.specs.declared.key.Key.{Key}
use Rattle.skk_text.specs.declared.key_text.KeyFault.TheVariants.{BadName, NotAscii}
use Rattle.skk_text.proofs.KeyReading.{Read, FaultAt, fault_at, read_more, has_fault, fault-only_keys}
use Rattle.skk_text.proofs.KeyReading.{fault-only_bad_name, fault-only_not_ascii, end-only_keys, end-only_bad_name}
use Rattle.skk_text.proofs.KeyReading.{end-only_not_ascii}
use Rattle.skk_text.proofs.key_text.read_keys.Goals as goal

pub loop-at-preserved : goal.loop-at-preserved
loop-at-preserved c =
    let (key, size, spelling) = c.in-Ok.ensures.ok in
    subst (λ keys. Read c.args.bytes.now keys (c.loop-at.at + c.in-Ok.length)) (sym c.in_ok-push-in-Ok.ensures.ok)
    (read_more c.args.bytes.now c.loop-at.keys c.loop-at.at c.in-Ok.key c.in-Ok.length c.loop-at.invariant
    key size spelling)

pub returns-in-Err : goal.returns-in-Err
returns-in-Err c =
    let bytes = c.args.bytes.now in
    let keys = c.loop-at.keys in
    let at = c.loop-at.at in
    let fault = c.in-Err.fault in
    let read = c.loop-at.invariant in
    let told : FaultAt bytes at fault =
    fault_at (Key × ℕ) bytes at fault c.in-Err.ensures.bad_name c.in-Err.ensures.not_ascii c.in-Err.ensures.no_memory in
    record {
      found = tt;
      only_keys = fault-only_keys bytes keys at read fault told;
      bad_name =
          λ place e. let is : fault ≡ BadName place = cc in
          has_fault bytes keys at read BeginsBadName place (c.in-Err.ensures.bad_name place (ap Err is));
      only_bad_name = fault-only_bad_name bytes keys at read fault told;
      not_ascii =
          λ place e. let is : fault ≡ NotAscii place = cc in
          has_fault bytes keys at read BeginsNotAscii place (c.in-Err.ensures.not_ascii place (ap Err is));
      only_not_ascii = fault-only_not_ascii bytes keys at read fault told;
    }

pub returns-clause-only_keys : goal.returns-clause-only_keys
returns-clause-only_keys c =
    end-only_keys c.args.bytes.now c.loop-at.keys c.loop-at.at c.loop-at.invariant c.loop-at-test.false

pub returns-clause-only_bad_name : goal.returns-clause-only_bad_name
returns-clause-only_bad_name c =
    end-only_bad_name c.args.bytes.now c.loop-at.keys c.loop-at.at c.loop-at.invariant c.loop-at-test.false

pub returns-clause-only_not_ascii : goal.returns-clause-only_not_ascii
returns-clause-only_not_ascii c =
    end-only_not_ascii c.args.bytes.now c.loop-at.keys c.loop-at.at c.loop-at.invariant c.loop-at-test.false
