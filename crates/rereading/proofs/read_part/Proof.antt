use borrow.Author.Rules.{rules}
use Rattle.rereading.proofs.Trying.{trying}
use Rattle.rereading.proofs.read_part.Statement.{statement}
use Rattle.rereading.proofs.read_part.Tie as tie
use Rattle.rereading.proofs.read_part.Reads as reads
use Rattle.rereading.proofs.read_part.Lts as lts
use Rattle.reader.proofs.read.Reads as read-reads

-- src/lib.rt:14:27
sub_read : tie.Need-slice_bounds-read-count
sub_read c = search rules

-- src/lib.rt:14:27
part_read_start : tie.Need-slice_bounds-read-start
part_read_start c = search rules

-- src/lib.rt:14:27
part_read_end : tie.Need-slice_bounds-read-end
part_read_end c = search rules

-- src/lib.rt:14:5
read_requires : tie.Need-read-requires
read_requires c κs = search rules

-- src/lib.rt:10:1
same_length : tie.Need-shape_of-table
same_length c = search rules

-- src/lib.rt:10:1
returns : tie.Need-returns
returns c = search trying

pub read_part_spec : {M : Type 1} → statement M
read_part_spec =
    tie.close (tie.spec sub_read part_read_start part_read_end read_requires same_length returns)
