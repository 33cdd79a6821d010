-- What follows of how a script's typing began.
use Rattle.std.proofs.Common.{◌≡◌, subst, rules, List, Result, Ok, Err, IfErr, IfOk}
use Rattle.romaji_rules.specs.declared.rule.Rule.{Rule}
use Rattle.skk_outside.specs.Moved.{MovedSink}
use Rattle.key_scripts.specs.declared.line.Line.{Line}
use Rattle.skk_disk.specs.declared.disk.Disk.{Ghosts}
use Rattle.learned_store.specs.Stores.{OpenStore, opening_now}
use Rattle.caller_work.specs.Disks.{DiskNow}
use Rattle.skk_top.specs.TypeCommand.{LeavesBegun, Manner}
use Rattle.run_endings.specs.declared.finish.Run.{Run}

-- what follows of what holds of a value, and of a fault
pub if_ok : {T E : Type 0} {P Q : T → Type 0} (result : Result T E) → IfOk result P → ((x : T) → P x → Q x)
    → IfOk result Q
if_ok (Ok x) p follows = follows x p
if_ok (Err e) p follows = search rules

pub if_ok3 : {T E : Type 0} {P Q R S : T → Type 0} (result : Result T E) → IfOk result P → IfOk result Q
    → IfOk result R → ((x : T) → P x → Q x → R x → S x) → IfOk result S
if_ok3 (Ok x) p q r follows = follows x p q r
if_ok3 (Err e) p q r follows = search rules

pub if_err : {T E : Type 0} {P Q : E → Type 0} (result : Result T E) → IfErr result P → ((e : E) → P e → Q e)
    → IfErr result Q
if_err (Ok x) p follows = search rules
if_err (Err e) p follows = follows e p

-- what was typed over a store and by rules was so over these that are the same
pub begun-typed : {D : Type 0} (Lines : Manner D) (ghosts : Ghosts D) (begun store : OpenStore D)
    (table rules' : List Rule) (lines : List Line) (run : Run D) (out : MovedSink) (disk : DiskNow)
    → table ≡ rules' → begun ≡ store
    → LeavesBegun Lines (opening_now ghosts begun) table lines run out disk
    → LeavesBegun Lines (opening_now ghosts store) rules' lines run out disk
begun-typed {D = D} Lines ghosts begun store table rules' lines run out disk same_rules same_store typed =
    subst (λ (s : OpenStore D). LeavesBegun Lines (opening_now ghosts s) rules' lines run out disk) same_store
    (subst (λ (r : List Rule). LeavesBegun Lines (opening_now ghosts begun) r lines run out disk) same_rules
    typed)
