-- Demand 3, proved over `rules` alone. To be read from the top down:
--
--   Demand3            the theorem
--   Induction          what every act on a store keeps holds after a list of them, whatever the acts are
--   HistoryLaws        that induction for the calls and for batches of writes: a refused one leaves the store and tells the plain arrays nothing
--   Invariant          what every accepted call keeps, in two records (of the files; of the blocks), and demand 3's claim from it. Fresh, enter,
--                      settle and the calls that leave the store are shown here, with
--   HolderLaws         what enter and settle do to the holders of blocks and to the places of files
--   ReadLaws           a read from its units: each unit, read, is what the plain array has there
--   ReadManyLaws       many reads in one call, from that law of one read
--   HoleLaws           a list of stretches leaves out nothing but zeros
--   StaysLaws          a unit is where it was after a call, or what stayed of it is within the call's limit of runs; from the plan and what it leaves, below
--   BatchHistory       a batch of writes, from what holds of each write
--   Changes            write and grow, which `Invariant` leaves as a premise. An accepted one has a plan (FileCallLaws); then come
--
-- What the plan says:
--   ChangeLaws         what a change does to a plain array, and which units it leaves out
--   UnitLaws           what a hole and a checked unit say of books and image
--   PlanLaws           where a rewritten unit's blocks are, on any volume; no unit is refused but for want of blocks, and what its bytes become
--   PlannedLaws        the rewritten units together: their order, new blocks, the card's count and the hint
--
-- What the finished volume says, from the plan:
--   ExtentsAfter       the extents. Below it: Rewritten (the words), ApartLaws (extents one behind the other), MeetLaws (joining), CutLaws (units cut out),
--                      RunLaws (the runs of the call), MappingLaws (where a block is), PlaceLaws and ExtentsFromPlaces (places)
--   GroupsAfter, CardsAfter, ImageAfter      the groups, the cards, the image
--   AfterUnits         each unit, read: a rewritten one has the new bytes, any other its old ones (BackedLaws: refusal 9's test of a unit)
--   BlocksAfter        no block gets a second place, each is in one place where it was, and the maps keep their rules (PlaceCounts, BalanceLaws: places counted)
--   VolumeAfter        it passes refusals 1 and 2, where no block had two places
--   UnsharedLaws       so it is with a change to any store, damaged or not: an accepted write leaves one that passes them and maps no block twice such a one
--   AgreesAfter        it says what the plain arrays do
--
-- MoreLists and MoreBytes are laws of lists and of buffers that these rest on. Laws of the rules that code cites too stand in `rules`: what is kept of a unit
-- (KeptLaws), that every call leaves bytes (BytesKept), allocation, and what an accepted fresh, enter or settle leaves.
-- Assumes nothing.
pub mod Demand3
pub mod Induction
pub mod HistoryLaws
pub mod Invariant
pub mod HolderLaws
pub mod ReadLaws
pub mod ReadManyLaws
pub mod HoleLaws
pub mod BatchHistory
pub mod Changes
pub mod FileCallLaws
pub mod ChangeLaws
pub mod UnitLaws
pub mod PlanLaws
pub mod PlannedLaws
pub mod ExtentsAfter
pub mod Rewritten
pub mod ApartLaws
pub mod MeetLaws
pub mod CutLaws
pub mod RunLaws
pub mod MappingLaws
pub mod PlaceLaws
pub mod ExtentsFromPlaces
pub mod GroupsAfter
pub mod CardsAfter
pub mod ImageAfter
pub mod AfterUnits
pub mod BackedLaws
pub mod BlocksAfter
pub mod PlaceCounts
pub mod BalanceLaws
pub mod VolumeAfter
pub mod UnsharedLaws
pub mod StaysLaws
pub mod AgreesAfter
pub mod MoreLists
pub mod MoreBytes
