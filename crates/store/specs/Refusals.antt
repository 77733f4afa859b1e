-- The faults that the tables have.
use Rattle.block.specs.declared.fault.Code.{Code}
use Rattle.block.specs.declared.fault.Fault.{Fault}
use Rattle.block.specs.declared.fault.Part.TheVariants as parts
use Rattle.block.specs.declared.fault.Spot.{Spot}

-- a fault that the tables have, at a place
abbrev pub fault_at : Code → Spot → Fault
fault_at code spot = record { code = code; part = parts.Tables; spot = spot; clips = 0 }
