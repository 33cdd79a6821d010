-- Things of the outside before and after a call, each as one value: what it holds, as far as it tells that, and its
-- count of faults.
use Rattle.std.specs.Prelude.{ℕ, List, Option}
use Rattle.skk_outside.specs.declared.outside.Outside.{Ghosts}
use Rattle.skk_outside.specs.declared.shelf.Shelf.{Ghosts as ShelfGhosts}

-- bytes, as far as they are told
abbrev pub Told : Type 0
Told = Option (List ℕ)

-- a source: what it had left and has left, and its counts of faults
pub record MovedSource : Type 0 where
  pub left : Told
  pub left' : Told
  pub faults : ℕ
  pub faults' : ℕ

-- a sink: what it was written before and by now, and its counts of faults
pub record MovedSink : Type 0 where
  pub written : Told
  pub written' : Told
  pub faults : ℕ
  pub faults' : ℕ

-- a shelf: the file of each name, which no call changes, and its counts of faults
pub record MovedShelf : Type 0 where
  pub file : List ℕ → Told
  pub faults : ℕ
  pub faults' : ℕ

-- a source by its meanings, before and after
abbrev pub moved_source : {S : Type 0} → Ghosts S → S → S → MovedSource
moved_source source old new = record {
  left = source.left old;
  left' = source.left new;
  faults = source.faults old;
  faults' = source.faults new;
}

-- a sink by its meanings, before and after
abbrev pub moved_sink : {S : Type 0} → Ghosts S → S → S → MovedSink
moved_sink sink old new = record {
  written = sink.written old;
  written' = sink.written new;
  faults = sink.faults old;
  faults' = sink.faults new;
}

-- a shelf by its meanings, before and after
abbrev pub moved_shelf : {S : Type 0} → ShelfGhosts S → S → S → MovedShelf
moved_shelf shelf old new =
    record { file = shelf.file old; faults = shelf.faults old; faults' = shelf.faults new }
