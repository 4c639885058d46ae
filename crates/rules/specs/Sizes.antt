-- Document 01, "Block": the sizes of what a store is made of, and the limits of a call.
-- Assumes nothing.
use Rattle.std.specs.Prelude.{ℕ}

-- "Block. 4,096 bytes."
abbrev pub block_bytes : ℕ
block_bytes = 4096

-- "Unit: 16 blocks, 65,536 bytes."
abbrev pub unit_blocks : ℕ
unit_blocks = 16

-- the same in bytes
abbrev pub unit_bytes : ℕ
unit_bytes = 65536

-- "Checksum group: 256 units."
abbrev pub group_units : ℕ
group_units = 256

-- "Allocation group: 16,384 blocks."
abbrev pub group_blocks : ℕ
group_blocks = 16384

-- "A store has 1 to 65,536 blocks."
abbrev pub most_blocks : ℕ
most_blocks = 65536

-- refusal 1: a book has at most 1,048,575 places
abbrev pub most_places : ℕ
most_places = 1048575

-- refusal 5: a file ends at most here, 9,223,372,036,854,775,807
abbrev pub most_size : ℕ
most_size = 9223372036854775807

-- refusal 7: the same bound for seconds
abbrev pub most_seconds : ℕ
most_seconds = 9223372036854775807

-- refusals 2 and 7: nanoseconds stay below 1,000,000,000
abbrev pub nanoseconds_bound : ℕ
nanoseconds_bound = 1000000000

-- refusal 14: a card counts at most 34,359,738,367 blocks
abbrev pub most_allocated : ℕ
most_allocated = 34359738367

-- an extent counts at most 4,294,967,295 blocks
abbrev pub most_extent : ℕ
most_extent = 4294967295

-- a write or a read takes at most 1,048,576 bytes
abbrev pub most_transfer : ℕ
most_transfer = 1048576

-- "If the unit's blocks then form over four runs, none is kept."
abbrev pub most_runs : ℕ
most_runs = 4

-- W-207: "in which a unit keeps old blocks only at two runs or fewer"
abbrev pub archive_runs : ℕ
archive_runs = 2
