use Rattle.std.proofs.Common.{rules, ◌++◌, []}
use Rattle.sec1.specs.Coordinates.{first_bytes}
use Rattle.sec1.proofs.CoordinateLemmas.{first_array, second_array}
use Rattle.sec1.proofs.point.coordinates.CoordinatesDebug.fmt.Goals as goal

pub returns-in-Uncompressed : goal.returns-in-Uncompressed
returns-in-Uncompressed g c =
    let it = c.in-Uncompressed in
    let y = first_bytes g.row.N it.y.now in
    let first = first_array g.row.N it.x.now (y ++ []) in
    record { writes = rw (it.is, first, second_array g.row.N it.x.now y) (search rules) }

pub returns-in-Hybrid : goal.returns-in-Hybrid
returns-in-Hybrid g c =
    let it = c.in-Hybrid in
    let y = first_bytes g.row.N it.y.now in
    let first = first_array g.row.N it.x.now (y ++ []) in
    record { writes = rw (it.is, first, second_array g.row.N it.x.now y) (search rules) }
