-- The tables of structures in the code, as definitions read them.
use Rattle.std.specs.Prelude.{ℕ, List, [], ◌∷◌, slice_index_or}
use denote.Enum.Declared.{tag_of}
use Rattle.der_view.specs.contracts.grammar.Structure.{the_type}
use Rattle.der_view.specs.contracts.grammar.family.Family.{the_type as families}
use Rattle.der_view.specs.declared.grammar.Content.{Content}
use Rattle.der_view.specs.declared.grammar.family.Family.{Family}
use Rattle.der_view.specs.declared.grammar.family.TheConstants.{IDENTIFIERS}
use Rattle.der_view.specs.declared.grammar.forms.Secrecy.{Secrecy}
use Rattle.der_view.specs.declared.grammar.name.Name.{Name}
use Rattle.der_view.specs.declared.grammar.name.Name.TheVariants as names
use Rattle.der_view.specs.declared.grammar.Presence.{Presence}
use Rattle.der_view.specs.declared.grammar.Structure.{Structure}
use Rattle.der_view.specs.declared.grammar.TheConstants.Structure as rows
use Rattle.der_view.specs.declared.grammar.name.TheConstants as choices

-- a component: its tag, whether it may be absent, its content, and its name
abbrev pub Component : Type 0
Component = ℕ × Presence × Content × Name

-- a form: its root, and what its parts can hold
abbrev pub Form : Type 0
Form = Component × Secrecy

-- what the contents of identifiers of a family begin with
unfoldable pub identifiers : Family → List ℕ
identifiers family = (slice_index_or IDENTIFIERS (tag_of families family) record { now = [] }).now

-- the components of each structure, in the order of `Structure`
unfoldable pub components : Structure → List Component
components structure =
    slice_index_or
    (rows.EC_PRIVATE_KEY ∷ rows.CURVE_NAME ∷ rows.PUBLIC_POINT ∷ rows.EC_KEY_INFO ∷
    rows.RSA_KEY_INFO ∷ rows.DSA_KEY_INFO ∷ rows.DH_KEY_INFO ∷ rows.X942_KEY_INFO ∷
    rows.OCTET_KEY_INFO ∷ rows.KEY_INFO ∷ rows.EC_KEY ∷ rows.RSA_KEY ∷ rows.NUMBER_KEY ∷
    rows.OCTET_KEY ∷ rows.RSA_PRIVATE_KEY ∷ rows.DSA_PRIVATE_KEY ∷ rows.KEY_PACKAGE ∷
    rows.ALGORITHM ∷ rows.EC_ALGORITHM ∷ rows.RSA_ALGORITHM ∷ rows.DSA_ALGORITHM ∷
    rows.DH_ALGORITHM ∷ rows.X942_ALGORITHM ∷ rows.EDWARDS_ALGORITHM ∷ rows.PUBLIC_KEY_INFO ∷
    rows.EC_PUBLIC_KEY_INFO ∷ rows.RSA_PUBLIC_KEY_INFO ∷ rows.RSA_BITS ∷ rows.SIGNATURE ∷
    rows.RSA_PUBLIC_KEY ∷ rows.DH_PARAMETER ∷ rows.DOMAIN_PARAMETERS ∷ rows.DSA_PARAMETERS ∷
    rows.EC_PARAMETERS ∷ rows.FIELD_ID ∷ rows.CURVE ∷ rows.CERTIFICATE ∷ rows.TBS_CERTIFICATE ∷
    rows.VERSION_FIELD ∷ rows.DISTINGUISHED_NAME ∷ rows.RELATIVE_NAME ∷ rows.NAME_ATTRIBUTE ∷
    rows.VALIDITY ∷ rows.EXTENSIONS_FIELD ∷ rows.EXTENSIONS ∷ rows.EXTENSION ∷
    rows.SUBJECT_KEY_EXTENSION ∷ rows.SUBJECT_KEY_IDENTIFIER ∷ rows.AUTHORITY_KEY_EXTENSION ∷
    rows.AUTHORITY_KEY_VALUE ∷ rows.AUTHORITY_KEY_IDENTIFIER ∷ rows.CERTIFICATION_REQUEST ∷
    rows.CERTIFICATION_REQUEST_INFO ∷ rows.CERTIFICATE_LIST ∷ rows.TBS_CERT_LIST ∷
    rows.REVOKED_CERTIFICATES ∷ rows.REVOKED_CERTIFICATE ∷ rows.PFX ∷ rows.MAC_DATA ∷
    rows.SAFE_CONTENTS ∷ rows.SAFE_BAG ∷ rows.CONTENT_INFO ∷ rows.PBES_KEY_INFO ∷
    rows.PBE_KEY_INFO ∷ rows.PBES_ALGORITHM ∷ rows.PBE_ALGORITHM ∷ rows.DIGEST_INFO ∷
    rows.SHA_INFO ∷ rows.SHA1_INFO ∷ rows.MD_INFO ∷ rows.SHA_ALGORITHM ∷ rows.SHA1_ALGORITHM ∷
    rows.MD_ALGORITHM ∷ rows.OCSP_REQUEST ∷ rows.TBS_REQUEST ∷ rows.REQUEST_LIST ∷ rows.REQUEST ∷
    rows.CERT_ID ∷ rows.OCSP_RESPONSE ∷ rows.RESPONSE_BYTES_FIELD ∷ rows.RESPONSE_BYTES ∷
    rows.TIME_STAMP_REQ ∷ rows.TIME_STAMP_RESP ∷ rows.PKI_STATUS_INFO ∷ rows.ANY ∷ [])
    (tag_of the_type structure) []

-- identifiers, and the structure whose components come after one of them
abbrev pub Case : Type 0
Case = Family × Structure

-- what may come after an identifier with a name, if it decides that
unfoldable pub cases : Name → List Case
cases names.ExtnId = choices.EXTENSION
cases _ = []
