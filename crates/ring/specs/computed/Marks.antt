-- The marks of what a move did and of a refusal, case by case. Not needed to believe any promise.
use Rattle.std.specs.Prelude.{ℕ, Option, Some, None, Result, Ok, Err}
use Rattle.model.specs.Marks.{own_loaded, foreign_loaded, batch_failed, data_stored, data_loaded, index_stored, race_found, no_such_core, is_halted, no_batch_left, no_age_here, past_initial, store_hidden}
use Rattle.ring.specs.declared.marks.Performed.{Performed}
use Rattle.ring.specs.declared.marks.Performed.TheVariants.{OwnLoaded, ForeignLoaded, BatchFailed, DataStored, DataLoaded, IndexStored, RaceFound}
use Rattle.ring.specs.declared.marks.Refusal.{Refusal}
use Rattle.ring.specs.declared.marks.Refusal.TheVariants.{NoSuchCore, Halted, NoBatchLeft, NoAgeHere, PastInitial, StoreHidden}

-- The mark of what a move did.
abbrev pub performed_mark : Performed → ℕ
performed_mark OwnLoaded = own_loaded
performed_mark ForeignLoaded = foreign_loaded
performed_mark BatchFailed = batch_failed
performed_mark DataStored = data_stored
performed_mark (DataLoaded byte) = data_loaded
performed_mark IndexStored = index_stored
performed_mark RaceFound = race_found

-- The byte that it read.
abbrev pub byte_read : Performed → Option ℕ
byte_read (DataLoaded byte) = Some byte
byte_read OwnLoaded = None
byte_read ForeignLoaded = None
byte_read BatchFailed = None
byte_read DataStored = None
byte_read IndexStored = None
byte_read RaceFound = None

-- The same of the latest move, where there is one.
abbrev pub last_mark : Option Performed → ℕ
last_mark None = 0
last_mark (Some did) = performed_mark did

abbrev pub last_byte : Option Performed → Option ℕ
last_byte None = None
last_byte (Some did) = byte_read did

-- The mark of a refusal.
abbrev pub refusal_mark : Refusal → ℕ
refusal_mark NoSuchCore = no_such_core
refusal_mark Halted = is_halted
refusal_mark NoBatchLeft = no_batch_left
refusal_mark NoAgeHere = no_age_here
refusal_mark PastInitial = past_initial
refusal_mark StoreHidden = store_hidden

-- The mark of a refused entry, or 0 where it is not refused.
abbrev pub mark_in : Result Unit Refusal → ℕ
mark_in (Ok x) = 0
mark_in (Err refused) = refusal_mark refused
