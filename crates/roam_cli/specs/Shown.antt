-- Commands as the definitions see them.
use Rattle.roam_cli.specs.CommandLine.{Asked, to_check, to_check_all, to_compare, to_simulate, to_serve, to_serve_with_its_seed, to_control, to_help, to_tell_version}
use Rattle.roam_cli.specs.declared.command_line.Command.{Command}
use Rattle.roam_cli.specs.declared.command_line.Command.TheVariants as command

abbrev pub shown : Command → Asked
shown (command.Check configuration) = to_check configuration.now
shown (command.CheckAll configuration) = to_check_all configuration.now
shown (command.Compare configuration next) = to_compare configuration.now next.now
shown (command.Sim configuration script) = to_simulate configuration.now script.now
shown (command.Serve configuration milliseconds) = to_serve configuration.now milliseconds
shown (command.ServeWithItsSeed configuration milliseconds) = to_serve_with_its_seed configuration.now milliseconds
shown (command.Control path order) = to_control path.now order
shown command.Help = to_help
shown command.Version = to_tell_version
