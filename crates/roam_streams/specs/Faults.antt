-- The numbers and names of what isn't done on a stream (ours).
use Rattle.std.specs.Prelude.{ℕ, List, codes}
use Rattle.roam_streams.specs.declared.stream_fault.StreamFault.{StreamFault}
use Rattle.roam_streams.specs.declared.stream_fault.StreamFault.TheVariants as fault

abbrev pub fault_number : StreamFault → ℕ
fault_number fault.NoMemory = 21
fault_number fault.Length = 30
fault_number fault.Limit = 31
fault_number fault.Socket = 32
fault_number fault.Away = 33
fault_number fault.Place = 34
fault_number fault.Full = 35
fault_number fault.Silent = 36

abbrev pub fault_name : StreamFault → List ℕ
fault_name fault.NoMemory = codes "NoMemory"
fault_name fault.Length = codes "StreamLength"
fault_name fault.Limit = codes "StreamLimit"
fault_name fault.Socket = codes "StreamSocket"
fault_name fault.Away = codes "StreamAway"
fault_name fault.Place = codes "StreamPlace"
fault_name fault.Full = codes "StreamFull"
fault_name fault.Silent = codes "StreamSilent"
