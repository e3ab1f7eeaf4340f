-- The sheet and the script of a demonstration: a component that counts the packets of a bus and sends them back.
use Rattle.std.specs.Prelude.{ℕ, zero, suc, ◌+◌, ◌*◌, ◌/◌, ◌%◌, List, [], ◌∷◌, ◌++◌, codes, decimal}
use Rattle.hex.specs.Hex.{encode_lower}

-- ---- the sheet

-- its integer types, and the container from which all packets derive
abbrev pub front_text : List ℕ
front_text = codes "[\"PackageFile\",[\"Package\",{\"name\":\"Gen\"},[\"DataTypeSet\",[\"IntegerDataType\",{\"name\":\"U8\"},[\"IntegerDataEncoding\",{\"sizeInBits\":\"8\",\"encoding\":\"unsigned\"}]],[\"IntegerDataType\",{\"name\":\"U16\"},[\"IntegerDataEncoding\",{\"sizeInBits\":\"16\",\"encoding\":\"unsigned\"}]],[\"ContainerDataType\",{\"name\":\"Base\",\"abstract\":\"true\"},[\"EntryList\",[\"Entry\",{\"name\":\"K\",\"type\":\"U16\"}]]]"

-- the packet of a number, by which it is told from the others
abbrev pub packet_text : (number : ℕ) → List ℕ
packet_text i = codes "[\"ContainerDataType\",{\"name\":\"C" ++ decimal i ++ codes "\",\"baseType\":\"Base\"},[\"ConstraintSet\",[\"ValueConstraint\",{\"entry\":\"K\",\"value\":\"" ++ decimal i ++ codes "\"}]],[\"EntryList\",[\"Entry\",{\"name\":\"V\",\"type\":\"U8\"}]]]"

-- so many packets, from this number on, each behind a comma
abbrev pub packets_text : (number more : ℕ) → List ℕ
packets_text i zero = []
packets_text i (suc more) = (codes "," ++ packet_text i) ++ packets_text (i + 1) more

-- the interface of the bus, and the component
abbrev pub back_text : List ℕ
back_text = codes "],[\"DeclaredInterfaceSet\",[\"Interface\",{\"name\":\"Sub\",\"level\":\"subnetwork\"},[\"GenericTypeSet\",[\"GenericType\",{\"name\":\"Unit\"}]],[\"CommandSet\",[\"Command\",{\"name\":\"send\"},[\"Argument\",{\"name\":\"unit\",\"type\":\"Unit\"}]],[\"Command\",{\"name\":\"recv\"},[\"Argument\",{\"name\":\"unit\",\"type\":\"Unit\",\"mode\":\"notify\"}]]]]],[\"ComponentSet\",[\"Component\",{\"name\":\"Echo\"},[\"RequiredInterfaceSet\",[\"Interface\",{\"name\":\"bus\",\"type\":\"Sub\"},[\"GenericTypeMapSet\",[\"GenericTypeMap\",{\"name\":\"Unit\",\"type\":\"Base\"}]]]],[\"Implementation\",[\"VariableSet\",[\"Variable\",{\"name\":\"n\",\"type\":\"U16\"}]],[\"ActivitySet\",[\"Activity\",{\"name\":\"echo\"},[\"Argument\",{\"name\":\"unit\",\"type\":\"Base\"}],[\"Body\",[\"MathOperation\",{\"outputVariableRef\":\"n\"},[\"VariableRef\",{\"variableRef\":\"n\"}],[\"Value\",{\"value\":\"1\"}],[\"Operator\",{\"operator\":\"add\"}]],[\"SendCommandPrimitive\",{\"interface\":\"bus\",\"command\":\"send\"},[\"ArgumentValue\",{\"name\":\"unit\"},[\"ArgumentRef\",{\"argumentRef\":\"unit\"}]]]]]],[\"StateMachineSet\",[\"StateMachine\",{\"name\":\"m\"},[\"EntryState\",{\"name\":\"S\"}],[\"Transition\",{\"fromState\":\"S\",\"toState\":\"S\"},[\"OnCommandPrimitive\",{\"interface\":\"bus\",\"command\":\"recv\"}],[\"Do\",{\"activity\":\"echo\"},[\"ArgumentValue\",{\"name\":\"unit\"},[\"ArgumentRef\",{\"argumentRef\":\"unit\"}]]]]]]]]]]]"

-- the sheet, of so many packets
abbrev pub demo_sheet : ℕ → List ℕ
demo_sheet n = front_text ++ packets_text 1 n ++ back_text

-- ---- the script

-- the octets of a frame of a number: two of the number of the packet, and one
abbrev pub demo_frame : (packets number : ℕ) → List ℕ
demo_frame n i = (i % (n + 1)) / 256 ∷ (i % (n + 1)) % 256 ∷ i % 256 ∷ []

-- a frame arrives, and a nanosecond passes
abbrev pub frame_lines : (packets number : ℕ) → List ℕ
frame_lines n i = codes "frame Gen/Echo:bus recv " ++ encode_lower (demo_frame n i) ++ codes "\ntick 1\n"

-- so many frames, from this number on
abbrev pub frames_text : (packets number more : ℕ) → List ℕ
frames_text n i zero = []
frames_text n i (suc more) = frame_lines n i ++ frames_text n (i + 1) more

-- the script: each packet comes ten times, and ten frames are no packet
abbrev pub demo_script : ℕ → List ℕ
demo_script n = frames_text n 1 (10 * (n + 1))
