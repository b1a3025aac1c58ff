-- Lines as the format's description has them.
use Rattle.std.proofs.Common.{◌≡◌, false, true, [], ◌∷◌, None, Some, Err, refl}
use Rattle.std.specs.Prelude.{codes}
use Rattle.std.specs.Fmt.{digits}
use Rattle.hex.specs.Hex.{decode_pairs, encode_with}
use Rattle.roam_address.specs.Decimals.{is_decimal, decimal_in}
use Rattle.std.specs.declared.net.ip_addr.IpAddr.TheVariants.{V4}
use Rattle.std.specs.Net.Reader.{read_ipv4, read_number, read_octet}
use Rattle.roam_address.specs.Texts.{host_in, endpoint_in}
use Rattle.roam_conf.specs.Texts.{parts}
use Rattle.roam_conf.specs.declared.place.Place.TheVariants as place
use Rattle.roam_core.specs.Events.{arrives, ticks}
use Rattle.roam_sim.specs.Script.{states, faulty, times_in, place_in, datagram_in, line_states, script_states}
use Rattle.roam_sim.specs.Lines.{packet_line}

-- a tick of shard 2
tick_line : line_states (codes "T 1000 2") ≡ states (ticks 1000 2)
unfolding line_states parts decimal_in is_decimal
tick_line = refl

-- a datagram of two octets, at the outgoing socket of realm 1, without and with the wall clock's seconds, and without
-- its session
arrival_line : line_states (codes "A 0 out:1 192.0.2.1:5000 0aFF")
    ≡ states (arrives 0 (record {
      at = place.Out 1 0;
      from = record { ip = record { ip = V4 (record { octets = 192 ∷ 0 ∷ 2 ∷ 1 ∷ [] }) }; port = 5000 };
      octets = 10 ∷ 255 ∷ [];
      seconds = None;
      keeps_session = true;
    }))
unfolding line_states parts decimal_in is_decimal times_in place_in endpoint_in host_in read_ipv4 read_octet
    read_number datagram_in decode_pairs
arrival_line = refl

timed_line : line_states (codes "A 0/1700000000 out:1 192.0.2.1:5000 0aFF")
    ≡ states (arrives 0 (record {
      at = place.Out 1 0;
      from = record { ip = record { ip = V4 (record { octets = 192 ∷ 0 ∷ 2 ∷ 1 ∷ [] }) }; port = 5000 };
      octets = 10 ∷ 255 ∷ [];
      seconds = Some 1700000000;
      keeps_session = true;
    }))
unfolding line_states parts decimal_in is_decimal times_in place_in endpoint_in host_in read_ipv4 read_octet
    read_number datagram_in decode_pairs
timed_line = refl

lost_line : line_states (codes "L 0 out:1 192.0.2.1:5000 0aFF")
    ≡ states (arrives 0 (record {
      at = place.Out 1 0;
      from = record { ip = record { ip = V4 (record { octets = 192 ∷ 0 ∷ 2 ∷ 1 ∷ [] }) }; port = 5000 };
      octets = 10 ∷ 255 ∷ [];
      seconds = None;
      keeps_session = false;
    }))
unfolding line_states parts decimal_in is_decimal times_in place_in endpoint_in host_in read_ipv4 read_octet
    read_number datagram_in decode_pairs
lost_line = refl

-- a carriage return is part of the last field
carriage_return : line_states (codes "T 0 0\r") ≡ faulty
unfolding line_states parts decimal_in is_decimal
carriage_return = refl

-- lines that are skipped are counted
third_line : script_states (codes "# late\n\nT 0 00\nT 0 0") ≡ Err 3
unfolding script_states line_states parts decimal_in is_decimal
third_line = refl

-- a packet that leaves for realm 0
printed_packet : packet_line (Some 0) (place.Out 0 0)
    (record { ip = record { ip = V4 (record { octets = 198 ∷ 51 ∷ 100 ∷ 1 ∷ [] }) }; port = 1812 })
    (1 ∷ 0 ∷ 0 ∷ 61 ∷ []) ≡ codes "0 out:0 198.51.100.1:1812 0100003d\n"
unfolding digits encode_with
printed_packet = refl
