use Rattle.std.proofs.Common.{inl, inr}
use Rattle.roam_conf.specs.Shown.{shown}
use Rattle.roam_sim.specs.Simulation.{IsConfiguration}
use Rattle.roam_sim.proofs.SimulationLemmas.{simulates}
use Rattle.roam_sim.proofs.simulation.sim.Goals as goal

pub returns-clause-ok : goal.returns-clause-ok
returns-clause-ok g c =
    let known = g.W.Write.contents in
    let read : IsConfiguration c.args.configuration.now (shown c.in_ok-config.config) =
    record { stated = c.in_ok-config.ensures.ok; faultless = c.in_ok-config.ensures.faultless } in
    simulates c.simulate.result c.args.configuration.now c.args.script.now (shown c.in_ok-config.config)
    (known c.args.writer.now) (known c.simulate.new.writer) read c.simulate.ensures.ok

pub returns-clause-memory : goal.returns-clause-memory
returns-clause-memory g c = λ is.
    let read : IsConfiguration c.args.configuration.now (shown c.in_ok-config.config) =
    record { stated = c.in_ok-config.ensures.ok; faultless = c.in_ok-config.ensures.faultless } in
    elim (c.simulate.ensures.memory is) [
      | inl same ↦ inl same
      | inr part ↦ inr (record { config = shown c.in_ok-config.config; read = read; simulated = part })
    ]

-- A configuration that was read is not at fault, and was accepted.
pub returns-clause-config : goal.returns-clause-config
returns-clause-config g c = λ fault is. absurd (c.simulate.ensures.config fault is)

pub returns-clause-line_accepted : goal.returns-clause-line_accepted
returns-clause-line_accepted g c = λ n is. (
  shown c.in_ok-config.config,
  record { stated = c.in_ok-config.ensures.ok; faultless = c.in_ok-config.ensures.faultless },
)

pub returns-clause-write_accepted : goal.returns-clause-write_accepted
returns-clause-write_accepted g c = λ is. (
  shown c.in_ok-config.config,
  record { stated = c.in_ok-config.ensures.ok; faultless = c.in_ok-config.ensures.faultless },
)

-- The script is at fault where the simulation says so.
pub returns-clause-line : goal.returns-clause-line
returns-clause-line g c = λ n is. (c.simulate.ensures.line n).0 is
