use Rattle.std.proofs.Common.{sym, subst, Err}
use Rattle.osm_host.specs.Names.{KnownByCall}
use Rattle.osm_host.specs.Tallies.{names_in}
use Rattle.osm_host.specs.declared.outside.HostError.TheVariants.{Failed}
use Rattle.osm_host_std.specs.declared.sink.FileSink.{FileSink}
use Rattle.osm_host_std.proofs.host.StdHostHost.open_sink.Goals as goal

pub returns-in-Err-clause-known : goal.returns-in-Err-clause-known
returns-in-Err-clause-known g c =
    subst
    (λ known.
    KnownByCall {T = FileSink g.row.R-File.Denot} c.args.name.now (names_in c.args.self.now.tallies) known (Err Failed))
    (sym c.fail.ensures.known)
    (record { keeps = c.enter.ensures.keeps; only = c.enter.ensures.only; own = c.in_ok-enter.ensures.own })
