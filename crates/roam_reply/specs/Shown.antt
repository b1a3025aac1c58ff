-- With what a reply is returned, without where it lies.
use Rattle.roam_reply.specs.Returned.{Returning}
use Rattle.roam_reply.specs.declared.terms.Returning.{Returning as Terms}

-- what a `Returning` of the code shows
abbrev pub shown : Terms → Returning
shown r = record {
  forwarded_authenticator = r.forwarded_authenticator;
  home_secret = r.home_secret.now;
  client_secret = r.client_secret.now;
}
