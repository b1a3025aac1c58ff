-- The Operator-Name that a peer's table states (RFC 5580, section 4.1).
use Rattle.std.specs.Prelude.{ℕ, codes, List, ◌++◌, Option, Some, None}
use Rattle.toml.specs.Data.{Members}
use Rattle.roam_conf_reader.specs.declared.operator.OperatorText.{OperatorText}
use Rattle.roam_conf_reader.specs.declared.values.Letters.TheVariants.{Any}
use Rattle.roam_conf_reader.specs.Values.{letters_of, namespace, optional_at, text}

-- what a name and a namespace state: none where both are absent, else the namespace, REALM where it is absent, and the
-- name behind it. There is no namespace without a name (ours)
abbrev pub operator_value : Option (List ℕ) → Option (List ℕ) → Option (Option (List ℕ))
operator_value None None = Some None
operator_value None (Some space) = None
operator_value (Some name) None = Some (Some (codes "1" ++ name))
operator_value (Some name) (Some space) = Some (Some (space ++ name))

-- the same where each of the two keys is absent or has a value of its kind
abbrev pub operator_if_both : Option (Option (List ℕ)) → Option (Option (List ℕ)) → Option (Option (List ℕ))
operator_if_both (Some name) (Some space) = operator_value name space
operator_if_both _ _ = None

-- what a table states
abbrev pub operator_at : Members → Option (Option (List ℕ))
operator_at members =
    operator_if_both (optional_at (text 252 (letters_of Any)) (codes "operator_name") members)
    (optional_at namespace (codes "operator_namespace") members)

-- the value, from the two texts
abbrev pub operator_said : OperatorText → List ℕ
operator_said text = text.namespace.now ++ text.name.now
