-- What a list of files in memory says: each name has the bytes of the first file of that name.
-- Here the files are one finite map; the code finds a file in its list and changes it there.
use Rattle.std.specs.Prelude.{List, map}
use Rattle.std.specs.FinMap as finite
use Rattle.osm_host.specs.Contents.{Files}
use Rattle.osm_host.specs.declared.memory.files.FileHeld.{FileHeld}

-- the files of a list
abbrev pub files_of : List FileHeld → Files
files_of files = finite.from_entries (map (λ f. (f.name, f.bytes)) files)
