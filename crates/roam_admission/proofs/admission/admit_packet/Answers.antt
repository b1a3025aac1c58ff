use Rattle.roam_admission.proofs.admission.admit_packet.Goals as goal

-- the home server is one of the realm of the place
pub secret_of_home-secret-requires : goal.secret_of_home-secret-requires
secret_of_home-secret-requires g c =
    c.requires.home c.in-Reverse.realm c.in-Reverse.field-1 c.in-Home.server c.in-Reverse.is c.in-Home.is
