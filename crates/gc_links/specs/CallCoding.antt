-- The coding of the system's calls as numbers and bytes, from which the calls come back: a field for proofs alone has to have a
-- coding (`Coded`) of what it holds.
use Rattle.std.specs.Prelude.{◌≡◌, ℕ, true, false, List, [], cond, ◌==◌, refl}
use Rattle.std.specs.Coded.{Coded, code_by, coded×, coded_ℕ, coded_list}
use Rattle.std.specs.declared.net.socket_addr.SocketAddr.{SocketAddr}
use Rattle.std.specs.declared.net.socket_addr.SocketAddr.TheVariants.{V4, V6}
use Rattle.gc_links.specs.Calls.{End, Address, Device, Call, Monotonic, NoMonotonic, Wall, NoWall, Found, NotFound, Reached, NotReached, Took, TookNone, NotTaken, Came, CameNone, NotCome, Dropped, Asked, Looked, Kept, NotKept}

-- the parts of an address: a number for its kind, its numbers, its port, its flow information and its scope
abbrev AddressParts : Type 0
AddressParts = ℕ × (List ℕ × (ℕ × (ℕ × ℕ)))

-- an address as its parts
abbrev address_parts : SocketAddr → AddressParts
address_parts (V4 a) = (0, (a.ip.octets, (a.port, (0, 0))))
address_parts (V6 a) = (1, (a.ip.segments, (a.port, (a.flowinfo, a.scope_id))))

-- the address of these parts; a kind above 1, which no address has, counts as 1
abbrev address_from : AddressParts → SocketAddr
address_from p =
    cond (p.0 == 0) (V4 (record { ip = record { octets = p.1.0 }; port = p.1.1.0 }))
    (V6 (record { ip = record { segments = p.1.0 }; port = p.1.1.0; flowinfo = p.1.1.1.0; scope_id = p.1.1.1.1 }))

-- an address comes back from its parts
pub address_from-parts : (a : SocketAddr) → address_from (address_parts a) ≡ a
address_from-parts (V4 a) = refl
address_from-parts (V6 a) = refl

-- the coding of an address
abbrev coded_address : Coded SocketAddr
coded_address =
    code_by AddressParts (coded× coded_ℕ (coded× (coded_list coded_ℕ) (coded× coded_ℕ (coded× coded_ℕ coded_ℕ))))
    address_parts address_from address_from-parts

-- an end as its parts: a number for its kind, the parts of an address, and a path
abbrev EndParts : Type 0
EndParts = ℕ × (AddressParts × List ℕ)

-- the parts that are stored with an end without an address
abbrev no_address : AddressParts
no_address = (0, ([], (0, (0, 0))))

-- an end as its parts
abbrev end_parts : End → EndParts
end_parts (Address address) = (0, (address_parts address, []))
end_parts (Device path) = (1, (no_address, path))

-- the end of these parts; a kind above 1, which no end has, counts as 1
abbrev end_from : EndParts → End
end_from p = cond (p.0 == 0) (Address (address_from p.1.0)) (Device p.1.1)

-- an end comes back from its parts
pub end_from-parts : (end : End) → end_from (end_parts end) ≡ end
end_from-parts (Address (V4 a)) = refl
end_from-parts (Address (V6 a)) = refl
end_from-parts (Device path) = refl

-- the coding of an end
abbrev coded_end : Coded End
coded_end =
    code_by EndParts
    (coded× coded_ℕ (coded× (coded× coded_ℕ (coded× (coded_list coded_ℕ) (coded× coded_ℕ (coded× coded_ℕ coded_ℕ)))) (coded_list coded_ℕ)))
    end_parts end_from end_from-parts

-- the parts of a call: a number for its kind, a number, bytes, addresses, and an end
abbrev CallParts : Type 0
CallParts = ℕ × (ℕ × (List ℕ × (List SocketAddr × End)))

-- the parts of a call of this kind without addresses
abbrev parts : (kind : ℕ) (number : ℕ) (bytes : List ℕ) → End → CallParts
parts kind number bytes end = (kind, (number, (bytes, ([], end))))

-- the end that is stored with a call without an end
abbrev no_end : End
no_end = Device []

-- the path of an end; empty if it is an address
abbrev path_of_end : End → List ℕ
path_of_end (Address address) = []
path_of_end (Device path) = path

-- a call as its parts; the bytes of a file are in the place of the path of an end
abbrev call_parts : Call → CallParts
call_parts (Monotonic nanos) = parts 0 nanos [] no_end
call_parts NoMonotonic = parts 1 0 [] no_end
call_parts (Wall nanos) = parts 2 nanos [] no_end
call_parts NoWall = parts 3 0 [] no_end
call_parts (Found name addresses) = (4, (0, (name, (addresses, no_end))))
call_parts (NotFound name) = parts 5 0 name no_end
call_parts (Reached end) = parts 6 0 [] end
call_parts (NotReached end) = parts 7 0 [] end
call_parts (Took end bytes count) = parts 8 count bytes end
call_parts (TookNone end bytes) = parts 9 0 bytes end
call_parts (NotTaken end bytes) = parts 10 0 bytes end
call_parts (Came end bytes) = parts 11 0 bytes end
call_parts (CameNone end) = parts 12 0 [] end
call_parts (NotCome end) = parts 13 0 [] end
call_parts (Dropped end) = parts 14 0 [] end
call_parts (Asked end still) = parts 15 (cond still 1 0) [] end
call_parts (Looked path here) = parts 16 (cond here 1 0) path no_end
call_parts (Kept path changed bytes) = parts 17 changed path (Device bytes)
call_parts (NotKept path) = parts 18 0 path no_end

-- the call of these parts; a kind above 18, which no call has, counts as 18
abbrev call_from : CallParts → Call
call_from p =
    cond (p.0 == 0) (Monotonic p.1.0)
    (cond (p.0 == 1) NoMonotonic
    (cond (p.0 == 2) (Wall p.1.0)
    (cond (p.0 == 3) NoWall
    (cond (p.0 == 4) (Found p.1.1.0 p.1.1.1.0)
    (cond (p.0 == 5) (NotFound p.1.1.0)
    (cond (p.0 == 6) (Reached p.1.1.1.1)
    (cond (p.0 == 7) (NotReached p.1.1.1.1)
    (cond (p.0 == 8) (Took p.1.1.1.1 p.1.1.0 p.1.0)
    (cond (p.0 == 9) (TookNone p.1.1.1.1 p.1.1.0)
    (cond (p.0 == 10) (NotTaken p.1.1.1.1 p.1.1.0)
    (cond (p.0 == 11) (Came p.1.1.1.1 p.1.1.0)
    (cond (p.0 == 12) (CameNone p.1.1.1.1)
    (cond (p.0 == 13) (NotCome p.1.1.1.1)
    (cond (p.0 == 14) (Dropped p.1.1.1.1)
    (cond (p.0 == 15) (Asked p.1.1.1.1 (p.1.0 == 1))
    (cond (p.0 == 16) (Looked p.1.1.0 (p.1.0 == 1))
    (cond (p.0 == 17) (Kept p.1.1.0 p.1.0 (path_of_end p.1.1.1.1)) (NotKept p.1.1.0))))))))))))))))))

-- a call comes back from its parts
pub call_from-parts : (call : Call) → call_from (call_parts call) ≡ call
call_from-parts (Monotonic nanos) = refl
call_from-parts NoMonotonic = refl
call_from-parts (Wall nanos) = refl
call_from-parts NoWall = refl
call_from-parts (Found name addresses) = refl
call_from-parts (NotFound name) = refl
call_from-parts (Reached end) = refl
call_from-parts (NotReached end) = refl
call_from-parts (Took end bytes count) = refl
call_from-parts (TookNone end bytes) = refl
call_from-parts (NotTaken end bytes) = refl
call_from-parts (Came end bytes) = refl
call_from-parts (CameNone end) = refl
call_from-parts (NotCome end) = refl
call_from-parts (Dropped end) = refl
call_from-parts (Asked end true) = refl
call_from-parts (Asked end false) = refl
call_from-parts (Looked path true) = refl
call_from-parts (Looked path false) = refl
call_from-parts (Kept path changed bytes) = refl
call_from-parts (NotKept path) = refl

-- the coding of a list of calls, for the field `made` of `calls.rt`
abbrev pub calls_code : Coded (List Call)
calls_code =
    coded_list
    (code_by CallParts (coded× coded_ℕ (coded× coded_ℕ (coded× (coded_list coded_ℕ) (coded× (coded_list coded_address) coded_end))))
    call_parts call_from call_from-parts)
