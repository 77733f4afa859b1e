-- The faults: their numbers and words, the names of the parts that find them, and how a fault is written.
use Rattle.std.specs.Prelude.{ℕ, zero, suc, List, ◌++◌, codes}
use Rattle.std.specs.Fmt.{decimal}
use Rattle.block.specs.declared.fault.Code.{Code}
use Rattle.block.specs.declared.fault.Code.TheVariants.{OutOfRange, Overlap, Disagreement, Content, NoSuchList, BeyondLength, NotKnown, NotListed, TooManyRedone, LimitPassed, Misplaced, Backwards}
use Rattle.block.specs.declared.fault.Fault.{Fault}
use Rattle.block.specs.declared.fault.Part.{Part}
use Rattle.block.specs.declared.fault.Spot.{Spot}
use Rattle.block.specs.declared.fault.Spot.TheVariants as spots
use Rattle.block.specs.Ids.{id_text}
use Rattle.block.specs.declared.fault.Part.TheVariants.{Tables, Clip, Cursor, Mark, Range, Edit}

abbrev pub code_number : Code → ℕ
code_number OutOfRange = 1
code_number Overlap = 2
code_number Disagreement = 3
code_number Content = 4
code_number NoSuchList = 5
code_number BeyondLength = 6
code_number NotKnown = 7
code_number NotListed = 8
code_number TooManyRedone = 9
code_number LimitPassed = 10
code_number Misplaced = 11
code_number Backwards = 12

abbrev pub code_words : Code → List ℕ
code_words OutOfRange = codes "a field is out of range"
code_words Overlap = codes "runs of one client overlap or leave a gap"
code_words Disagreement = codes "records disagree"
code_words Content = codes "content does not match its run"
code_words NoSuchList = codes "no such list"
code_words BeyondLength = codes "beyond the length of the list"
code_words NotKnown = codes "the clock is not known"
code_words NotListed = codes "known, but in no list that fits"
code_words TooManyRedone = codes "too many successors in a row"
code_words LimitPassed = codes "a limit would be passed"
code_words Misplaced = codes "not allowed at this unit"
code_words Backwards = codes "the range ends before it starts"

abbrev pub part_name : Part → List ℕ
part_name Tables = codes "tables"
part_name Clip = codes "clip"
part_name Cursor = codes "cursor"
part_name Mark = codes "mark"
part_name Range = codes "range"
part_name Edit = codes "edit"

-- where a fault lies
abbrev pub spot_text : Spot → List ℕ
spot_text spots.Nowhere = codes "no place"
spot_text (spots.RunRecord i) = codes "run record " ++ decimal i
spot_text (spots.ListRecord i) = codes "list record " ++ decimal i
spot_text (spots.ClientRecord i) = codes "client record " ++ decimal i
spot_text (spots.EntryRecord i) = codes "entry record " ++ decimal i
spot_text (spots.Byte i) = codes "byte " ++ decimal i
spot_text (spots.List l) = codes "list " ++ decimal l
spot_text (spots.Unit id) = codes "unit " ++ id_text id

-- how many clips a fault passed, if any
abbrev pub clips_text : ℕ → List ℕ
clips_text zero = codes ")"
clips_text (suc zero) = codes ", under 1 clip)"
clips_text (suc (suc n)) = codes ", under " ++ (decimal (suc (suc n)) ++ codes " clips)")

-- one line, as: fault 6: beyond the length of the list (cursor, list 0)
abbrev pub fault_text : Fault → List ℕ
fault_text f = codes "fault " ++ (decimal (code_number f.code) ++ (codes ": " ++ (code_words f.code ++ (codes " (" ++ (part_name f.part ++ (codes ", " ++ (spot_text f.spot ++ clips_text f.clips)))))))
