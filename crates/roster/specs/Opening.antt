-- The question put before a roster is opened, and what the opening gives.
use Rattle.std.specs.Prelude.{ℕ, Bool, true, false, ◌&&◌, List, ◌++◌, drop, replicate, nat_le}
use Rattle.pile.specs.Answers.{Told}
use Rattle.pile.specs.Opening.{asked}
use Rattle.roster.specs.declared.record.Record.{Record}
use Rattle.roster.specs.declared.record.Record.TheVariants.{Free}

-- 1 to 1,024, and within the records given
abbrev pub capacity_passes : (capacity records : ℕ) → Bool
capacity_passes capacity records = nat_le 1 capacity && nat_le capacity 1024 && nat_le capacity records

abbrev pub capacity_rule : (capacity records : ℕ) → Told ℕ
capacity_rule capacity records = asked (capacity_passes capacity records) 1 capacity

-- a capacity that did not pass counts as 0
abbrev pub or_none : (passes : Bool) → ℕ → ℕ
or_none true n = n
or_none false n = 0

abbrev pub taken_capacity : (capacity records : ℕ) → ℕ
taken_capacity capacity records = or_none (capacity_passes capacity records) capacity

-- the records that it is lent are cleared as far as it uses them
abbrev pub cleared : {K : Type 0} → List (Record K) → (capacity : ℕ) → List (Record K)
cleared records capacity = replicate capacity Free ++ drop capacity records
